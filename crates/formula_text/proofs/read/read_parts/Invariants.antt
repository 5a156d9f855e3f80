use Rattle.std.proofs.Common.{length, drop, ◌-◌, ◌≡◌, ◌≤◌}
use Rattle.written_items.specs.RowReading.{count_tail, row_of}
use Rattle.formula_text.specs.FormulaReader.{values_or_fault}
use Rattle.formula_text.proofs.ReadingSteps.{values_before}
use Rattle.formula_text.proofs.read.read_parts.Given as goal

abbrev pub invariant-loop-at : goal.invariant-loop-at
invariant-loop-at l =
    (l.at ≤ length l.text) × (values_or_fault 0 (row_of count_tail l.text)
    ≡ values_before l.parts.items (values_or_fault l.at (row_of count_tail (drop l.at l.text))))

abbrev pub decreases-loop-at : goal.decreases-loop-at
decreases-loop-at l = length l.text - l.at
