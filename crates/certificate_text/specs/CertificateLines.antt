-- The lines of a certificate's text. Texts are lists of bytes.
use Rattle.std.specs.Prelude.{ℕ, ◌^◌, List, ◌++◌, length, take, drop, codes}
use Rattle.std.specs.Prelude.{if◌then◌else◌, Option, Some, None}
use Rattle.std.specs.Str.{bytes_eq}
use Rattle.certificate_text.specs.Certificates.{CertLineEntry}

-- the first line
abbrev pub title : List ℕ
title = codes "isoform certificate 1"

-- the words at the beginning of lines 2 to 6
abbrev pub formula_word : List ℕ
formula_word = codes "formula "

abbrev pub coverage_word : List ℕ
coverage_word = codes "coverage "

abbrev pub size_word : List ℕ
size_word = codes "size "

abbrev pub bound_word : List ℕ
bound_word = codes "bound "

abbrev pub threshold_word : List ℕ
threshold_word = codes "threshold "

-- the words before the text of an isotopologue, where it is marked as one of the cover and where it isn't
abbrev pub cover_word : List ℕ
cover_word = codes "cover "

abbrev pub layer_word : List ℕ
layer_word = codes "layer "

-- the line behind the listed isotopologues
abbrev pub end_line : List ℕ
end_line = codes "end"

-- the greatest number of a line
abbrev pub most_number : ℕ
most_number = 10 ^ 18

-- the line of a listed isotopologue
abbrev pub listed_line : CertLineEntry → List ℕ
listed_line entry = (if entry.marked then cover_word else layer_word) ++ entry.text

-- what stands behind a word at the beginning of a line, if the line begins with it
abbrev pub behind : List ℕ → List ℕ → Option (List ℕ)
behind word line = if bytes_eq (take (length word) line) word then Some (drop (length word) line) else None
