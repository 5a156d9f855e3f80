-- An enumeration of the formulas of a peak.
use Rattle.std.specs.Prelude.{ℕ, List, Option, map}
use Rattle.written_items.specs.declared.item.Item.{Item}
use Rattle.decompose.specs.Enumeration.{after_given}
use Rattle.candidates.specs.Grounds.{GroundValue}
use Rattle.candidates.specs.PeakFormulas.{formulas_of_peak, formula_at}

-- on which premises and at which m/z it goes, and the count list up to which it has come, if it has begun
pub record CandidateEnumeration : Type 0 where
  pub premises : GroundValue
  pub mz : ℕ
  pub given : Option (List ℕ)

-- the count lists that are left
abbrev pub counts_left : CandidateEnumeration → List (List ℕ)
counts_left e = after_given (formulas_of_peak e.premises e.mz) e.given

-- the formulas that are left
abbrev pub formulas_left : CandidateEnumeration → List (List (Item × ℕ))
formulas_left e = map (formula_at e.premises.alphabet) (counts_left e)
