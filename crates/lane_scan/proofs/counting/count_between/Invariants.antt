use Rattle.std.proofs.Common.{◌≡◌, ◌-◌, ◌≤◌, take, length}
use Rattle.std.specs.Prelude.{nat_le, ◌&&◌, count_by}
use Rattle.lane_scan.proofs.counting.count_between.Given as goal

abbrev pub invariant-loop-at : goal.invariant-loop-at
invariant-loop-at l = record {
  within : l.at ≤ length l.masses;
  counted : l.count ≡ count_by (λ m. nat_le l.fn.lo m && nat_le m l.fn.hi) (take l.at l.masses);
}

abbrev pub decreases-loop-at : goal.decreases-loop-at
decreases-loop-at l = length l.masses - l.at
