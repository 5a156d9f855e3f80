use Rattle.std.proofs.Common.{◌≡◌, ◌*◌, ◌≤◌, ◌^◌, take}
use Rattle.peak_ranking.specs.Tallies.{member_count}
use Rattle.peak_ranking.proofs.ranked.RankedPeaks.member_count.Given as goal

-- the members of the covers of the first jobs' candidates
abbrev pub invariant-loop-job : goal.invariant-loop-job
invariant-loop-job l = record {
  count : l.count ≡ member_count (take l.job l.self);
  small : l.count ≤ l.job * (1048576 * 2 ^ 64);
}
