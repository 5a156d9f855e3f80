-- The stop that is met first is that of a task, and never want of memory.
use Rattle.std.proofs.Common.{◌≡◌, ℕ, ◌+◌, Bool, true, false, cond, List, length, refl, sym, ap, ◌∙◌, arith}
use Rattle.std.specs.Prelude.{Option, Some, None, find, nat_lt, option_and_then, option_map, take, if◌then◌else◌}
use Rattle.std.proofs.lemmas.Option.{slice_get_within}
use Rattle.written_items.specs.declared.item.Item.{Item}
use Rattle.turn_rounds.specs.Stops.{Stop, first_from, first_stop, is_given}
use Rattle.turn_rounds.proofs.StopLaws.{first_is_one, is_stop_of}
use Rattle.ranking.specs.declared.fault.RankFault.TheVariants.{Memory}
use Rattle.ranking.specs.Rankings.{RankTask, candidates_of, is_over_limit, max_candidates, stop_of, stop_with}
use Rattle.peak_ranking.specs.RankQueries.{RankQuery}
use Rattle.peak_ranking.specs.RankedJobs.{RankedJob, begun_jobs, job_at, met_fault, task_at}
use Rattle.peak_ranking.proofs.JobCounts.{length-begun_jobs}
use Rattle.peak_ranking.proofs.RankedParts.{begun-at}

no_memory_with : (task : RankTask) (many : Bool) (first : Option (List (Item × ℕ))) →
    stop_with task many first ≡ Some Memory → ⊥
no_memory_with task many (Some formula) is = cc
no_memory_with task true None is = cc
no_memory_with task false None is = cc

no_memory : (task : RankTask) → stop_of task ≡ Some Memory → ⊥
unfolding stop_of
no_memory task is =
    no_memory_with task (nat_lt max_candidates (length (candidates_of task)))
    (find (is_over_limit task) (take max_candidates (candidates_of task))) is

kept-some : {Fault : Type 0} (turns : Option ℕ) (first : Option (Stop Fault)) (stop : Stop Fault) →
    option_and_then (λ (s : Stop Fault). if is_given turns s.turn then Some s else None) first ≡ Some stop →
    first ≡ Some stop
kept-some turns None stop is = absurd (cc)
kept-some {Fault} turns (Some its) stop is =
    elim (is_given turns its.turn) as (λ b. cond b (Some its) None ≡ Some stop → Some its ≡ Some stop) [
      | true ↦ λ e. e
      | false ↦ λ e. absurd (cc)
    ] is

of_fault : {Fault : Type 0} (stop : Option (Stop Fault)) (fault : Fault) → option_map (λ s. s.fault) stop ≡ Some fault →
    (its : Stop Fault) × (stop ≡ Some its) × (its.fault ≡ fault)
of_fault None fault is = absurd (cc)
of_fault (Some its) fault is = (its, refl, cc)

pub never-memory : (query : RankQuery) → met_fault query ≡ Some Memory → ⊥
unfolding met_fault
never-memory query is =
    let met = of_fault (first_stop query.turn query.turns (begun_jobs query)) Memory is in
    let first = kept-some query.turns (first_from (length (begun_jobs query)) query.turn 0 (begun_jobs query)) met.0 met.1 in
    let one = first_is_one (length (begun_jobs query)) query.turn 0 (begun_jobs query) met.0 first in
    let stop = is_stop_of (length (begun_jobs query)) query.turn (0 + one.0) one.1.job met.0 one.1.is_stop in
    let within = slice_get_within (begun_jobs query) one.0 one.1.job one.1.is_there in
    let count = length-begun_jobs query in
    let at = begun-at query one.0 (omega (arith, within, count)) in
    let there = one.1.is_there in
    let same : one.1.job ≡ job_at query (query.first + one.0) = cc in
    no_memory (task_at query (query.first + one.0))
    (ap (λ (j : RankedJob). j.stop) (sym same) ∙ stop.fault ∙ ap Some met.2)
