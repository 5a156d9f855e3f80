-- How many jobs are ranked.
use Rattle.std.proofs.Common.{◌≡◌, length, ◌∙◌}
use Rattle.std.proofs.lemmas.List.FromFn.{length-map-range_with_len}
use Rattle.turn_rounds.proofs.RoundLaws.{length-board_after_rounds}
use Rattle.peak_ranking.specs.RankQueries.{RankQuery}
use Rattle.peak_ranking.specs.RankedJobs.{begun_jobs, job_at, ranked_jobs}

pub length-begun_jobs : (query : RankQuery) → length (begun_jobs query) ≡ query.jobs
length-begun_jobs query = length-map-range_with_len (job_at query) query.first query.jobs

pub length-ranked_jobs : (query : RankQuery) → length (ranked_jobs query) ≡ query.jobs
unfolding ranked_jobs
length-ranked_jobs query =
    length-board_after_rounds query.turn query.turns (begun_jobs query) ∙ length-begun_jobs query
