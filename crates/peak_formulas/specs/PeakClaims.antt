-- What is claimed of the formulas of a peak: which they are, by the exact masses of their ions.
use Rattle.std.specs.Prelude.{◌≡◌, ℕ, List, Some, AllPairs, Contains, IsTrue, ◌↔◌}
use Rattle.mass_scaling.specs.Tolerances.{Within}
use Rattle.decompose.specs.CountLists.{IsInBox, comes_after}
use Rattle.written_items.specs.declared.item.Item.{Item}
use Rattle.formula_text.specs.Formulas.{formula_of}
use Rattle.adducts.specs.Adducts.{divisor_of}
use Rattle.adducts.specs.Ions.{ion_of, mass_of_ion}
use Rattle.golden_rules.specs.MeetsRules.{MeetsAll}
use Rattle.candidates.specs.Grounds.{GroundValue}
use Rattle.candidates.specs.PeakFormulas.{counts_of, limits_of}

-- A count list of the alphabet's box is of a peak: it is that of a formula within the limits, which has an ion within
-- the limits, the ion's exact mass is within tolerance of the m/z, and the formula meets the rules.
pub record IsOfPeak (premises : GroundValue) (mz : ℕ) (counts : List ℕ) : Type 0 where
  pub in_box : IsInBox (limits_of premises.alphabet) counts
  pub formula : List (Item × ℕ)
  pub is_formula : formula_of (counts_of premises.alphabet counts) ≡ Some formula
  pub ion : List (Item × ℕ)
  pub is_ion : ion_of premises.adduct formula ≡ Some ion
  pub within : Within (mass_of_ion premises.table premises.adduct ion) mz premises.tolerance (divisor_of premises.adduct)
  pub meets : MeetsAll premises.table premises.rules formula

-- count lists are all of a peak: each one that is of the peak stands there, and no other; they stand in lexicographic
-- order, so that none stands twice
pub record AreAllOfPeak (premises : GroundValue) (mz : ℕ) (lists : List (List ℕ)) : Type 0 where
  pub exactly : (counts : List ℕ) → Contains lists counts ↔ IsOfPeak premises mz counts
  pub rising : AllPairs (λ a b. IsTrue (comes_after a b)) lists
