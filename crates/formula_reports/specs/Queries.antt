-- What is asked of `decompose`, read. An m/z is in 10^-12 Da.
use Rattle.std.specs.Prelude.{ℕ, List, Option}
use Rattle.written_items.specs.declared.item.Item.{Item}
use Rattle.candidates.specs.Grounds.{GroundValue}

-- The formulas of peaks of these m/z: all of them, or those that come after the counts of a token, and of these all or
-- the first so many.
pub record FormulaQuery : Type 0 where
  pub premises : GroundValue
  pub mzs : List ℕ
  pub after : Option (List (Item × ℕ))
  pub limit : Option ℕ
