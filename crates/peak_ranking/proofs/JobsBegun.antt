-- The jobs of the first peaks, with the next one.
use Rattle.std.proofs.Common.{◌≡◌, ℕ, ◌+◌, ◌-◌, ◌≤◌, List, [], ◌∷◌, ◌++◌, map, sym, ap, ◌∙◌, arith}
use Rattle.std.specs.List.{range_with_len}
use Rattle.std.proofs.lemmas.List.{map-append}
use Rattle.std.proofs.lemmas.List.FromFn.{map-range_with_len_more}
use Rattle.job_turns.specs.Turns.{begun}
use Rattle.ranking.specs.RankJobs.{RankState, list_left, stop_left}
use Rattle.ranking.specs.Rankings.{RankTask, ranked_list, stop_of}
use Rattle.peak_ranking.specs.RankQueries.{RankQuery}
use Rattle.peak_ranking.specs.RankedJobs.{RankedJob, job_at, task_at}

-- a job at its beginning
abbrev pub progress_of : RankState → RankedJob
progress_of job = begun (list_left job) (stop_left job)

progress-is : (query : RankQuery) (place : ℕ) (task : RankTask) (job : RankState) → task ≡ task_at query place →
    list_left job ≡ ranked_list task → stop_left job ≡ stop_of task → progress_of job ≡ job_at query place
progress-is query place task job same list stop =
    ap (λ l. begun l (stop_left job)) list ∙ ap (begun (ranked_list task)) stop
    ∙ ap (λ (t : RankTask). begun (ranked_list t) (stop_of t)) same

pub begun-more : (query : RankQuery) (place : ℕ) (task : RankTask) (jobs : List RankState) (job : RankState) →
    query.first ≤ place → map progress_of jobs ≡ map (job_at query) (range_with_len query.first (place - query.first)) →
    task ≡ task_at query place → list_left job ≡ ranked_list task → stop_left job ≡ stop_of task →
    map progress_of (jobs ++ job ∷ []) ≡ map (job_at query) (range_with_len query.first (place + 1 - query.first))
begun-more query place task jobs job from before same list stop =
    let count : place + 1 - query.first ≡ place - query.first + 1 = omega (arith, from) in
    let there : query.first + (place - query.first) ≡ place = omega (arith, from) in
    map-append progress_of jobs (job ∷ [])
    ∙ ap (λ (js : List RankedJob). js ++ progress_of job ∷ []) before
    ∙ ap (λ (j : RankedJob). map (job_at query) (range_with_len query.first (place - query.first)) ++ j ∷ [])
    (progress-is query place task job same list stop)
    ∙ sym (map-range_with_len_more (job_at query) query.first (place - query.first) place there)
    ∙ ap (λ (n : ℕ). map (job_at query) (range_with_len query.first n)) (sym count)
