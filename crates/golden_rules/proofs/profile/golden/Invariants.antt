use Rattle.std.proofs.Common.{◌≡◌, ◌+◌, ◌≤◌, ◌++◌, length, filter}
use Rattle.std.specs.Str.Lines.{lines}
use Rattle.golden_rules.specs.Profile.{golden}
use Rattle.golden_rules.specs.RuleLines.{is_known}
use Rattle.golden_rules.proofs.ProfileLines.{rules_of_lines}
use Rattle.golden_rules.proofs.profile.golden.Given as goal

-- the known rules so far and those of the lines that are left are the known rules of the profile
abbrev pub invariant-loop-left : goal.invariant-loop-left
invariant-loop-left l = record {
  all : l.rules.items ++ filter (is_known l.table) (rules_of_lines (lines l.left)) ≡ golden l.table;
  few : length l.rules.items + length (lines l.left) ≤ 15;
}

abbrev pub decreases-loop-left : goal.decreases-loop-left
decreases-loop-left l = length l.left
