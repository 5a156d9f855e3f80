use Rattle.std.proofs.Common.{◌≡◌, ◌≤◌}
use Rattle.peak_ranking.proofs.TallySteps.{found_first}
use Rattle.peak_ranking.proofs.ranked.RankedPeaks.found_count.Given as goal

-- of the first jobs
abbrev pub invariant-loop-job : goal.invariant-loop-job
invariant-loop-job l = record {
  count : l.count ≡ found_first l.job l.formulas l.self;
  small : l.count ≤ l.job;
}
