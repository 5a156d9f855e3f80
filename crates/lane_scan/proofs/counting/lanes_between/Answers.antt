use Rattle.std.proofs.Common.{take, drop, arith}
use Rattle.lane_scan.proofs.Lanes.{counted}
use Rattle.lane_scan.proofs.counting.lanes_between.Goals as goal

pub overflow_sub-result : goal.overflow_sub-result
overflow_sub-result c =
    omega (arith, counted (take 8 (drop c.args.at c.args.masses.now)) c.args.lo c.args.hi c.requires.ordered)

pub returns : goal.returns
returns c = omega (arith, counted (take 8 (drop c.args.at c.args.masses.now)) c.args.lo c.args.hi c.requires.ordered)
