use Rattle.std.proofs.Common.{◌≡◌, ◌*◌, ◌≤◌, ◌^◌, take}
use Rattle.peak_ranking.specs.Tallies.{candidate_count}
use Rattle.peak_ranking.proofs.ranked.RankedPeaks.candidate_count.Given as goal

-- the candidates of the first jobs
abbrev pub invariant-loop-job : goal.invariant-loop-job
invariant-loop-job l = record {
  count : l.count ≡ candidate_count (take l.job l.self);
  small : l.count ≤ l.job * 2 ^ 64;
}
