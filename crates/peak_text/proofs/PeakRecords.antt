-- The peak of a record.
use Rattle.std.proofs.Common.{◌≡◌, ℕ, List, [], ◌∷◌, length, Err, refl}
use Rattle.peak_text.specs.PeakText.{peak_of}
use Rattle.peak_text.specs.declared.fault.PeakFault.TheVariants as fault

-- a record of another number of fields
pub peak_of-count : (record_number : ℕ) (fields : List (List ℕ)) → (length fields ≡ 2 → ⊥)
    → peak_of record_number fields ≡ Err (fault.FieldCount record_number)
unfolding peak_of
peak_of-count record_number (mz ∷ intensity ∷ []) other = absurd (other refl)
peak_of-count record_number fields other = refl
