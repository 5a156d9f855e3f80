use Rattle.std.proofs.Common.{◌-◌, length, sum}
use Rattle.isotopologue_list.proofs.SearchLemmas.{IsBetween}
use Rattle.isotopologue_list.proofs.enclosures.place_of.Given as goal

-- the counts are among those that are left
abbrev pub invariant-loop-high : goal.invariant-loop-high
invariant-loop-high l = IsBetween (length l.row) (sum l.row) l.row l.low l.high

abbrev pub decreases-loop-high : goal.decreases-loop-high
decreases-loop-high l = l.high - l.low
