use Rattle.std.proofs.Common.{◌≡◌, ◌*◌}
use Rattle.std.specs.Prelude.{All}
use Rattle.element_table.specs.Elements.{TableEntries}
use Rattle.formula_text.specs.Masses.{HasItems}
use Rattle.peak_generator.specs.Draws.{state_after}
use Rattle.peak_generator.specs.MadeFormulas.{element_counts, made_formulas}
use Rattle.peak_generator.proofs.formulas.made_formulas.Given as goal

-- the formulas of the first peaks were made, and the draws have come to the next one's
abbrev pub invariant-loop : goal.invariant-loop
invariant-loop l = record {
  state : l.draws ≡ state_after l.fn.number (4 * l.counter);
  formulas : l.formulas.items ≡ made_formulas l.fn.number l.counter;
  known : (table : TableEntries) → HasItems table (element_counts 1 1 1 1) → All (HasItems table) l.formulas.items;
}
