-- What the records of a file say: a row each, or the first fault. A record is the list of its fields, and records are
-- numbered from 1.
use Rattle.std.specs.Prelude.{ℕ, ◌+◌, List, [], ◌∷◌, ◌++◌, Option, Result, Ok}
use Rattle.reader_answers.specs.Answers.{unless_fault, ◌>>=◌}

-- The rows of the records from this number on behind the earlier rows, or the first fault. `row_of` says what a record
-- says by itself, and `fault_after` what is wrong with its row behind the earlier ones.
abbrev pub rows_after : {Row Fault : Type 0} → (ℕ → List (List ℕ) → Result Row Fault)
    → (ℕ → List Row → Row → Option Fault)
    → ℕ → List Row → List (List (List ℕ)) → Result (List Row) Fault
rows_after row_of fault_after record_number earlier [] = Ok earlier
rows_after row_of fault_after record_number earlier (fields ∷ records) =
    row_of record_number fields >>= λ row. unless_fault (fault_after record_number earlier row)
    (rows_after row_of fault_after (record_number + 1) (earlier ++ row ∷ []) records)
