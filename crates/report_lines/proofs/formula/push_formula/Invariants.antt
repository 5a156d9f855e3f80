use Rattle.std.proofs.Common.{◌≡◌, ◌++◌, length, take}
use Rattle.formula_text.specs.PrintedText.{printed_text}
use Rattle.report_lines.proofs.formula.push_formula.Given as goal

-- the items so far, and those that are left
abbrev pub invariant-loop-rest : goal.invariant-loop-rest
invariant-loop-rest l = record {
  text : l.text.items ++ printed_text l.rest ≡ l.initial.text.items ++ printed_text l.items;
  kept : take (length l.initial.text.items) l.text.items ≡ l.initial.text.items;
}

abbrev pub decreases-loop-rest : goal.decreases-loop-rest
decreases-loop-rest l = length l.rest
