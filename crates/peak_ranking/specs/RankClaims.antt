-- What holds of the jobs of ranked peaks after their turns.
use Rattle.std.specs.Prelude.{◌≡◌, ℕ, ◌+◌, true, List, [], ◌++◌, map, All, Some, slice_get}
use Rattle.written_items.specs.declared.item.Item.{Item}
use Rattle.turn_rounds.specs.Rounds.{given_in_rounds, is_done}
use Rattle.ranking.specs.Rankings.{candidates_of, ranked, ranked_list}
use Rattle.peak_ranking.specs.RankQueries.{RankQuery}
use Rattle.peak_ranking.specs.RankedJobs.{RankedJob, ranked_jobs, task_at}

-- What the job at an index has found of its peak: the first of its ranked list, as many as its turns allowed in sum, or
-- the whole list. Their formulas are the first of the candidates of the peak, in candidate order, and all of them where
-- the job is done. It is done exactly where its turns allowed more than there are. Each is ranked by its own ion.
pub record IsRankedPart (query : RankQuery) (index : ℕ) (job : RankedJob) : Type 0 where
  pub given : job.found
      ≡ given_in_rounds query.jobs query.turn query.turns index (ranked_list (task_at query (query.first + index)))
  pub done : job.finished
      ≡ is_done query.jobs query.turn query.turns index (ranked_list (task_at query (query.first + index)))
  pub behind : List (List (Item × ℕ))
  pub candidates : map (λ entry. entry.formula) job.found ++ behind ≡ candidates_of (task_at query (query.first + index))
  pub whole : job.finished ≡ true → behind ≡ []
  pub each : All (λ entry. entry ≡ ranked (task_at query (query.first + index)) entry.formula) job.found

-- the same of each job
abbrev pub AreRankedParts : RankQuery → Type 0
AreRankedParts query = (index : ℕ) (job : RankedJob) → slice_get (ranked_jobs query) index ≡ Some job
    → IsRankedPart query index job
