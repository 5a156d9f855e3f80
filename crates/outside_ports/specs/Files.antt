-- What a shelf of files holds.
use Rattle.std.specs.Prelude.{ℕ, List, Option}

-- from a file's name to the file's bytes, where there is such a file; a name is its bytes
abbrev pub Files : Type 0
Files = List ℕ → Option (List ℕ)
