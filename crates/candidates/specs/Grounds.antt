-- The premises on which the formulas of peaks are listed: a table, an alphabet, an adduct, a tolerance and rules.
use Rattle.std.specs.Prelude.{List, All}
use Rattle.element_table.specs.Elements.{TableEntries, IsTable}
use Rattle.mass_scaling.specs.declared.tolerances.Tolerance.{Tolerance}
use Rattle.mass_scaling.specs.Limits.{IsTolerance}
use Rattle.formula_text.specs.Masses.{HasItems}
use Rattle.alphabet_text.specs.declared.entries.AlphabetEntry.{AlphabetEntry}
use Rattle.alphabet_text.specs.Alphabets.{IsAlphabet, IsEntryOf}
use Rattle.adducts.specs.Adducts.{AdductValue, IsAdduct}
use Rattle.golden_rules.specs.declared.rule.Rule.{Rule}

pub record GroundValue : Type 0 where
  pub table : TableEntries
  pub alphabet : List AlphabetEntry
  pub adduct : AdductValue
  pub tolerance : Tolerance
  pub rules : List Rule

-- the alphabet and the adduct are of the table, and the tolerance is within its limits
pub record IsGround (premises : GroundValue) : Type 0 where
  pub is_table : IsTable premises.table
  pub is_alphabet : IsAlphabet premises.alphabet
  pub entries : All (IsEntryOf premises.table) premises.alphabet
  pub is_adduct : IsAdduct premises.adduct
  pub added_known : HasItems premises.table premises.adduct.added
  pub lost_known : HasItems premises.table premises.adduct.lost
  pub is_tolerance : IsTolerance premises.tolerance
