use Rattle.std.proofs.Common.{◌≡◌, ◌-◌, ◌%◌}
use Rattle.decompose.proofs.LeapSteps.{Stands}
use Rattle.decompose.proofs.walk.find_in_pair.Given as goal

abbrev pub invariant-counts : goal.invariant-counts
invariant-counts l = record {
  reaches : Stands l.heavier l.lighter l.fn.count l.fn.window l.width l.count l.hi;
  remainder : l.remainder ≡ l.hi % l.lighter.mass;
  unchanged : l.levels ≡ l.initial.levels;
}

abbrev pub decreases-counts : goal.decreases-counts
decreases-counts l = l.heavier.limit.high - l.count
