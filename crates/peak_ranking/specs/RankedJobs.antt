-- How far the jobs of ranked peaks come in their turns.
use Rattle.std.specs.Prelude.{ℕ, ◌≤◌, List, length, map, All, Option, option_map, Result, Ok}
use Rattle.std.specs.List.{range_with_len}
use Rattle.reader_answers.specs.Answers.{unless_fault}
use Rattle.job_turns.specs.Turns.{Progress, begun}
use Rattle.peak_text.specs.Limits.{max_peaks}
use Rattle.turn_rounds.specs.Rounds.{board_after_rounds}
use Rattle.turn_rounds.specs.Stops.{first_stop}
use Rattle.ranking.specs.Places.{RankedEntry}
use Rattle.ranking.specs.Rankings.{RankTask, max_candidates, ranked_list, stop_of}
use Rattle.ranking.specs.declared.fault.RankFault.{RankFault}
use Rattle.peak_ranking.specs.RankQueries.{RankQuery}

-- how far a job has come: its ranked candidates that are found, and those left
abbrev pub RankedJob : Type 0
RankedJob = Progress RankedEntry RankFault

-- There are at most so many jobs as a list has peaks, and each has found at most so many candidates as a peak may have.
pub record AreFewJobs (jobs : List RankedJob) : Type 0 where
  pub few : length jobs ≤ max_peaks
  pub few_found : All (λ job. length job.found ≤ max_candidates) jobs

-- the ranking of the candidates of the peak at a place
abbrev pub task_at : RankQuery → ℕ → RankTask
task_at query place =
    record { premises = query.premises; peaks = query.peaks; place = place; coverage = query.coverage }

-- its job before the first turn
abbrev pub job_at : RankQuery → ℕ → RankedJob
job_at query place = begun (ranked_list (task_at query place)) (stop_of (task_at query place))

-- the jobs of the peaks that are ranked, in their order
abbrev pub begun_jobs : RankQuery → List RankedJob
begun_jobs query = map (job_at query) (range_with_len query.first query.jobs)

-- how far they come in their turns, where they meet no stop
unfoldable pub ranked_jobs : RankQuery → List RankedJob
ranked_jobs query = board_after_rounds query.turn query.turns (begun_jobs query)

-- the stop that is met first in these turns
unfoldable pub met_fault : RankQuery → Option RankFault
met_fault query = option_map (λ stop. stop.fault) (first_stop query.turn query.turns (begun_jobs query))

-- the jobs after their turns, or the stop that is met first
abbrev pub played : RankQuery → Result (List RankedJob) RankFault
played query = unless_fault (met_fault query) (Ok (ranked_jobs query))
