-- What a note says of a fault in a record of a file.
use Rattle.std.specs.Prelude.{ℕ, List, ◌++◌, codes}
use Rattle.std.specs.Fmt.{decimal}

-- the record of this number, and the cause in words
abbrev pub record_words : ℕ → List ℕ → List ℕ
record_words record_number cause = codes "record " ++ decimal record_number ++ (codes ": " ++ cause)
