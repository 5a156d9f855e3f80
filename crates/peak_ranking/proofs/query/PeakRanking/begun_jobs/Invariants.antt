use Rattle.std.proofs.Common.{◌≡◌, ◌-◌, map}
use Rattle.std.specs.List.{range_with_len}
use Rattle.job_turns.specs.Turns.{begun}
use Rattle.ranking.specs.RankJobs.{list_left, stop_left}
use Rattle.peak_ranking.specs.RankedJobs.{job_at}
use Rattle.peak_ranking.proofs.query.PeakRanking.begun_jobs.Given as goal

-- the jobs of the first peaks that are ranked
abbrev pub invariant-loop-place : goal.invariant-loop-place
invariant-loop-place l =
    map (λ job. begun (list_left job) (stop_left job)) l.jobs.items
    ≡ map (job_at l.self) (range_with_len l.self.first (l.place - l.self.first))
