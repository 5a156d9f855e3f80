-- The rows of a tracer's records.
use Rattle.std.proofs.Common.{◌≡◌, ℕ, List, [], ◌∷◌, length, Err, refl}
use Rattle.element_table.specs.Elements.{TableEntries}
use Rattle.element_table.specs.Tracers.{tracer_row_of}
use Rattle.element_table.specs.declared.tracer_fault.TracerFault.TheVariants as fault

-- a record of another number of fields
pub tracer_row_of-count : (table : TableEntries) (record_number : ℕ) (fields : List (List ℕ)) → (length fields ≡ 3 → ⊥)
    → tracer_row_of table record_number fields ≡ Err (fault.FieldCount record_number)
unfolding tracer_row_of
tracer_row_of-count table record_number (symbol ∷ number ∷ abundance ∷ []) other = absurd (other refl)
tracer_row_of-count table record_number fields other = refl
