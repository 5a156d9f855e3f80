use Rattle.std.proofs.Common.{◌≡◌, ◌+◌, ◌*◌, ◌≤◌, ◌++◌, length, drop}
use Rattle.formula_text.specs.PrintedText.{printed_text}
use Rattle.report_lines.proofs.formula.write_group.Given as goal

-- the items from the place on
abbrev pub invariant-loop-place : goal.invariant-loop-place
invariant-loop-place l = record {
  within : l.place ≤ length l.items;
  from : l.end + 25 * l.place ≤ l.at + 25 * length l.items;
  to : l.at ≤ l.end;
  text : drop l.at l.room ≡ printed_text (drop l.place l.items) ++ drop l.end l.initial.room;
}

abbrev pub decreases-loop-place : goal.decreases-loop-place
decreases-loop-place l = l.place
