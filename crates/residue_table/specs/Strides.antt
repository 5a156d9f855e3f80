-- For proofs alone: the cycles of residues that the multiples of a mass go through.
use Rattle.std.specs.Prelude.{◌≡◌, ℕ, ◌+◌, ◌*◌, ◌%◌, ◌<◌, ◌≤◌, List, ◌∷◌, slice_index}
use Rattle.residue_table.specs.Rows.{IsSound}

-- a common divisor of a modulus and a step that is a difference of multiples of both, and so their greatest one
pub record IsStride (modulus step divisor : ℕ) : Type 0 where
  pub cycle : ℕ
  pub modulus_is : modulus ≡ cycle * divisor
  pub factor : ℕ
  pub step_is : step ≡ factor * divisor
  pub moduli_forth : ℕ
  pub steps_forth : ℕ
  pub moduli_back : ℕ
  pub steps_back : ℕ
  pub returns : moduli_forth * modulus + steps_forth * step ≡ moduli_back * modulus + steps_back * step + divisor

-- the residue so many steps after another
abbrev pub residue_after : ℕ → ℕ → ℕ → ℕ → ℕ
residue_after modulus start step count = (start + count * step) % modulus

-- no entry of the new row is above that of the old one
abbrev pub IsLowered : List ℕ → List ℕ → Type 0
IsLowered old new = (k : ℕ) → slice_index new k ≤ slice_index old k

-- each entry up to so many steps after the start is at most each earlier one and the mass once for each step between
abbrev pub IsCarried : ℕ → ℕ → ℕ → ℕ → ℕ → List ℕ → List ℕ → Type 0
IsCarried modulus start step mass count old new = (i m : ℕ) → i + m ≤ count →
    slice_index new (residue_after modulus start step (i + m))
    ≤ slice_index old (residue_after modulus start step i) + m * mass

-- the same for less than once round from each of the cycle's residues on
abbrev pub IsClosed : ℕ → ℕ → ℕ → ℕ → ℕ → List ℕ → List ℕ → Type 0
IsClosed modulus start step mass cycle old new = (i m : ℕ) → i < cycle → m < cycle →
    slice_index new (residue_after modulus start step (i + m))
    ≤ slice_index old (residue_after modulus start step i) + m * mass

-- a sound row for the mass and some others stays so
abbrev pub KeepsSound : ℕ → List ℕ → List ℕ → Type 0
KeepsSound mass old new = (masses : List ℕ) → IsSound (mass ∷ masses) old → IsSound (mass ∷ masses) new
