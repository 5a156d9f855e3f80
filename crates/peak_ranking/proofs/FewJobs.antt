-- Ranked jobs are few, and so are the candidates that each has found.
use Rattle.std.proofs.Common.{ℕ, ◌+◌, ◌≤◌, List, length, map, take, sym, subst, arith}
use Rattle.std.specs.Prelude.{Bool, Option, Some, None}
use Rattle.std.specs.List.{before_first, position_or_len}
use Rattle.std.proofs.lemmas.List.{length-map, length-take}
use Rattle.std.proofs.lemmas.Option.{get_or_from_slice_get}
use Rattle.peak_text.specs.Limits.{max_peaks}
use Rattle.turn_rounds.specs.Rounds.{after_rounds, given_in_rounds, round_allowance}
use Rattle.ranking.specs.Places.{RankedEntry}
use Rattle.ranking.specs.Rankings.{RankTask, candidates_of, is_over_limit, max_candidates, ranked, ranked_list}
use Rattle.peak_ranking.specs.RankQueries.{IsRankQuery, RankQuery}
use Rattle.peak_ranking.specs.RankedJobs.{AreFewJobs, RankedJob, job_at, ranked_jobs, task_at}
use Rattle.peak_ranking.proofs.JobCounts.{length-ranked_jobs}
use Rattle.peak_ranking.proofs.RankedParts.{ranked-at}

few-taken : {X : Type 0} (n : ℕ) (xs : List X) → (length (take n xs) ≤ length xs) × (length (take n xs) ≤ n)
few-taken n xs = let count = length-take n xs in (omega (arith, count), omega (arith, count))

few-before : {X Y : Type 0} (f : X → Y) (p : X → Bool) (most : ℕ) (xs : List X) →
    length (map f (before_first p (take most xs))) ≤ most
few-before f p most xs =
    let first = few-taken most xs in
    let before = few-taken (position_or_len p (take most xs)) (take most xs) in
    let same = length-map (before_first p (take most xs)) f in
    omega (arith, first.1, before.0, same)

few-listed : (task : RankTask) → length (ranked_list task) ≤ max_candidates
unfolding ranked_list
few-listed task = few-before (ranked task) (is_over_limit task) max_candidates (candidates_of task)

few-given : {X : Type 0} (jobs allow : ℕ) (turns : Option ℕ) (place : ℕ) (xs : List X) →
    length (given_in_rounds jobs allow turns place xs) ≤ length xs
few-given jobs allow None place xs = omega arith
few-given jobs allow (Some count) place xs = (few-taken (round_allowance jobs allow count place) xs).0

-- the jobs of the peaks of a list
pub few-ranked : (query : RankQuery) → IsRankQuery query → length query.peaks ≤ max_peaks →
    AreFewJobs (ranked_jobs query)
few-ranked query is few =
    let count = length-ranked_jobs query in
    record {
      few = let inside = is.inside in omega (arith, count, inside, few);
      few_found = λ k d within.
          let at = ranked-at query k (omega (arith, within, count)) in
          let list : List RankedEntry = ranked_list (task_at query (query.first + k)) in
          let given = few-given query.jobs query.turn query.turns k list in
          let listed = few-listed (task_at query (query.first + k)) in
          subst (λ (job : RankedJob). length job.found ≤ max_candidates)
          (sym (get_or_from_slice_get (ranked_jobs query) k
          (after_rounds query.jobs query.turn query.turns k (job_at query (query.first + k))) d at))
          (omega (arith, given, listed));
    }
