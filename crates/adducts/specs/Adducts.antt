-- Adducts: what an ion has beside copies of a formula. Masses are in 10^-12 Da.
use Rattle.std.specs.Prelude.{ℕ, ℤ, ◌≤◌, List, max, unsigned_abs}
use Rattle.written_items.specs.declared.item.Item.{Item}
use Rattle.formula_text.specs.Formulas.{IsParts}
use Rattle.mass_scaling.specs.declared.limits.TheConstants.{MAX_COPIES, MAX_DIVISOR}

-- an adduct: how many copies of the formula an ion has, the atoms that it has beside them and those that it lacks,
-- and its charge
pub record AdductValue : Type 0 where
  pub copies : ℕ
  pub added : List (Item × ℕ)
  pub lost : List (Item × ℕ)
  pub charge : ℤ

-- an adduct within the limits: 1 to 4 copies, atoms within those of a formula, and at most 30 charges
pub record IsAdduct (adduct : AdductValue) : Type 0 where
  pub some_copies : 1 ≤ adduct.copies
  pub few_copies : adduct.copies ≤ MAX_COPIES
  pub added : IsParts adduct.added
  pub lost : IsParts adduct.lost
  pub few_charges : unsigned_abs adduct.charge ≤ MAX_DIVISOR

-- the number of charges, by which an ion's mass is divided, and 1 for the neutral adduct
abbrev pub divisor_of : AdductValue → ℕ
divisor_of adduct = max 1 (unsigned_abs adduct.charge)
