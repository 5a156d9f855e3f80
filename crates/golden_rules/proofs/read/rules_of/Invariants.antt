use Rattle.std.proofs.Common.{◌≡◌, ◌+◌, ◌≤◌, length}
use Rattle.std.specs.Str.Lines.{lines}
use Rattle.golden_rules.specs.Limits.{max_rules}
use Rattle.golden_rules.specs.RuleLines.{rules_after, rules_of}
use Rattle.golden_rules.proofs.read.rules_of.Given as goal

-- the rules read and those of the lines that are left are the rules of all lines
abbrev pub invariant-loop-left : goal.invariant-loop-left
invariant-loop-left l = record {
  all : rules_after l.table (l.number + 1) l.rules.items (lines l.left) ≡ rules_of l.table l.bytes;
  numbered : l.number + length l.left ≤ length l.bytes;
  few : length l.rules.items ≤ max_rules;
}

abbrev pub decreases-loop-left : goal.decreases-loop-left
decreases-loop-left l = length l.left
