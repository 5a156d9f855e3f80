-- What the jobs of ranked peaks have found is the first of the candidates of their peaks.
use Rattle.std.proofs.Common.{◌≡◌, ℕ, zero, suc, ◌+◌, ◌<◌, Bool, true, false, cond, ltb, List, [], ◌∷◌, ◌++◌, length}
use Rattle.std.proofs.Common.{map, take, drop, refl, sym, ap, ◌∙◌, subst, arith, length-append}
use Rattle.std.specs.Prelude.{Option, Some, None, option_map, find, not, slice_get}
use Rattle.std.specs.List.{AllByRecursion, before_first, position_or_len, prefix_len, range_with_len}
use Rattle.std.proofs.lemmas.Bool.{ltb-false, ltb-true}
use Rattle.std.proofs.lemmas.List.{append-nil, append_assoc, map-append, take_all, take-append-drop}
use Rattle.std.proofs.lemmas.List.Elements.{All-from_recursion}
use Rattle.std.proofs.lemmas.Option.{slice_get_within}
use Rattle.written_items.specs.declared.item.Item.{Item}
use Rattle.turn_rounds.specs.Rounds.{after_rounds, given_in_rounds, is_done, left_in_rounds, round_allowance}
use Rattle.turn_rounds.specs.Stops.{Stop, first_stop}
use Rattle.turn_rounds.proofs.RoundLaws.{get-board_after_rounds}
use Rattle.ranking.specs.declared.fault.RankFault.{RankFault}
use Rattle.ranking.specs.Places.{RankedEntry}
use Rattle.ranking.specs.Rankings.{RankTask, candidates_of, is_over_limit, max_candidates, ranked, ranked_list, stop_of, stop_with}
use Rattle.peak_ranking.specs.RankClaims.{AreRankedParts, IsRankedPart}
use Rattle.peak_ranking.specs.RankQueries.{IsRankQuery, RankQuery}
use Rattle.peak_ranking.specs.RankedJobs.{RankedJob, begun_jobs, job_at, met_fault, ranked_jobs, task_at}
use Rattle.peak_ranking.proofs.DoneJobs.{done-no_stop}
use Rattle.peak_ranking.proofs.JobCounts.{length-begun_jobs, length-ranked_jobs}

-- ---- the job at an index

at-range : {X : Type 0} (f : ℕ → X) (a n i : ℕ) → i < n → slice_get (map f (range_with_len a n)) i ≡ Some (f (a + i))
at-range f a zero i within = absurd (omega (arith, within))
at-range f a (suc n) zero within = ap (λ (k : ℕ). Some (f k)) (omega arith)
at-range f a (suc n) (suc i) within =
    at-range f (a + 1) n i (omega (arith, within)) ∙ ap (λ (k : ℕ). Some (f k)) (omega arith)

pub begun-at : (query : RankQuery) (index : ℕ) → index < query.jobs →
    slice_get (begun_jobs query) index ≡ Some (job_at query (query.first + index))
begun-at query index within = at-range (job_at query) query.first query.jobs index within

pub ranked-at : (query : RankQuery) (index : ℕ) → index < query.jobs → slice_get (ranked_jobs query) index
    ≡ Some (after_rounds query.jobs query.turn query.turns index (job_at query (query.first + index)))
unfolding ranked_jobs
ranked-at query index within =
    get-board_after_rounds query.turn query.turns (begun_jobs query) index (job_at query (query.first + index))
    (begun-at query index within)
    ∙ ap (λ (n : ℕ). Some (after_rounds n query.turn query.turns index (job_at query (query.first + index))))
    (length-begun_jobs query)

-- ---- first parts of lists

given-left : {X : Type 0} (jobs allow : ℕ) (turns : Option ℕ) (place : ℕ) (xs : List X) →
    given_in_rounds jobs allow turns place xs ++ left_in_rounds jobs allow turns place xs ≡ xs
given-left jobs allow None place xs = append-nil xs
given-left jobs allow (Some count) place xs = take-append-drop (round_allowance jobs allow count place) xs

given-whole : {X : Type 0} (jobs allow : ℕ) (turns : Option ℕ) (place : ℕ) (xs : List X) →
    is_done jobs allow turns place xs ≡ true → given_in_rounds jobs allow turns place xs ≡ xs
given-whole jobs allow None place xs done = refl
given-whole jobs allow (Some count) place xs done =
    let more = ltb-true (length xs) (round_allowance jobs allow count place) done in
    take_all (round_allowance jobs allow count place) xs (omega (arith, more))

nothing-behind : {X : Type 0} (xs ys : List X) → xs ++ ys ≡ xs → ys ≡ []
nothing-behind xs [] is = refl
nothing-behind xs (y ∷ ys) is =
    let whole = ap length is in let both = length-append xs (y ∷ ys) in absurd (omega (arith, whole, both))

front-each : {X : Type 0} (P : X → Type 0) (xs ys : List X) → AllByRecursion P (xs ++ ys) → AllByRecursion P xs
front-each P [] ys each = tt
front-each P (x ∷ xs) ys each = (each.0, front-each P xs ys each.1)

-- ---- the list of a task

-- the candidates that are listed, and those that aren't
abbrev listed : RankTask → List (List (Item × ℕ))
listed task = before_first (is_over_limit task) (take max_candidates (candidates_of task))

abbrev unlisted : RankTask → List (List (Item × ℕ))
unlisted task =
    drop (position_or_len (is_over_limit task) (take max_candidates (candidates_of task)))
    (take max_candidates (candidates_of task)) ++ drop max_candidates (candidates_of task)

listed-all : (task : RankTask) → listed task ++ unlisted task ≡ candidates_of task
listed-all task =
    let some : List (List (Item × ℕ)) = take max_candidates (candidates_of task) in
    let n : ℕ = position_or_len (is_over_limit task) some in
    sym (append_assoc (take n some) (drop n some) (drop max_candidates (candidates_of task)))
    ∙ ap (λ l. l ++ drop max_candidates (candidates_of task)) (take-append-drop n some)
    ∙ take-append-drop max_candidates (candidates_of task)

formulas-ranked : (task : RankTask) (fs : List (List (Item × ℕ))) →
    map (λ (e : RankedEntry). e.formula) (map (ranked task) fs) ≡ fs
unfolding ranked
formulas-ranked task [] = refl
formulas-ranked task (f ∷ fs) = ap (λ l. f ∷ l) (formulas-ranked task fs)

each-ranked : (task : RankTask) (fs : List (List (Item × ℕ))) →
    AllByRecursion (λ (e : RankedEntry). e ≡ ranked task e.formula) (map (ranked task) fs)
unfolding ranked
each-ranked task [] = tt
each-ranked task (f ∷ fs) = (refl, each-ranked task fs)

list-is : (task : RankTask) → ranked_list task ≡ map (ranked task) (listed task)
unfolding ranked_list
list-is task = refl

-- without a stop all candidates are listed

none-found : {X : Type 0} (p : X → Bool) (xs : List X) → find p xs ≡ None → position_or_len p xs ≡ length xs
none-found p [] none = refl
none-found p (x ∷ xs) none =
    elim (p x) as (λ b. cond b (Some x) (find p xs) ≡ None →
    cond (not b) (1 + prefix_len (λ y. not (p y)) xs) 0 ≡ length (x ∷ xs)) [
      | true ↦ λ (some : Some x ≡ None). absurd (cc)
      | false ↦ λ (rest : find p xs ≡ None). let same = none-found p xs rest in omega (arith, same)
    ] none

no-stop : (task : RankTask) (many : Bool) (first : Option (List (Item × ℕ))) → stop_with task many first ≡ None →
    (many ≡ false) × (first ≡ None)
no-stop task many (Some formula) none = absurd (cc)
no-stop task true None none = absurd (cc)
no-stop task false None none = (refl, refl)

listed-whole : (task : RankTask) → stop_of task ≡ None → listed task ≡ candidates_of task
unfolding stop_of
listed-whole task none =
    let all : List (List (Item × ℕ)) = candidates_of task in
    let parts = no-stop task (ltb max_candidates (length all)) (find (is_over_limit task) (take max_candidates all)) none in
    let few = ltb-false max_candidates (length all) parts.0 in
    let whole : take max_candidates all ≡ all = take_all max_candidates all (omega (arith, few)) in
    let found : find (is_over_limit task) all ≡ None = ap (find (is_over_limit task)) (sym whole) ∙ parts.1 in
    let end : position_or_len (is_over_limit task) all ≡ length all = none-found (is_over_limit task) all found in
    ap (before_first (is_over_limit task)) whole ∙ ap (λ (n : ℕ). take n all) end
    ∙ take_all (length all) all (omega arith)

-- ---- what a job has found

found-front : (task : RankTask) (found left : List RankedEntry) → found ++ left ≡ ranked_list task →
    map (λ (e : RankedEntry). e.formula) found ++ (map (λ (e : RankedEntry). e.formula) left ++ unlisted task)
    ≡ candidates_of task
found-front task found left parts =
    let formula : RankedEntry → List (Item × ℕ) = λ e. e.formula in
    sym (append_assoc (map formula found) (map formula left) (unlisted task))
    ∙ ap (λ l. l ++ unlisted task) (sym (map-append formula found left)
    ∙ ap (map formula) (parts ∙ list-is task) ∙ formulas-ranked task (listed task))
    ∙ listed-all task

found-each : (task : RankTask) (found left : List RankedEntry) → found ++ left ≡ ranked_list task →
    AllByRecursion (λ (e : RankedEntry). e ≡ ranked task e.formula) found
found-each task found left parts =
    front-each (λ (e : RankedEntry). e ≡ ranked task e.formula) found left
    (subst (AllByRecursion (λ (e : RankedEntry). e ≡ ranked task e.formula)) (sym (parts ∙ list-is task))
    (each-ranked task (listed task)))

found-whole : (task : RankTask) (found : List RankedEntry) → stop_of task ≡ None → found ≡ ranked_list task →
    map (λ (e : RankedEntry). e.formula) found ≡ candidates_of task
found-whole task found none is =
    ap (map (λ (e : RankedEntry). e.formula)) (is ∙ list-is task) ∙ formulas-ranked task (listed task)
    ∙ listed-whole task none

none-met : (stop : Option (Stop RankFault)) → option_map (λ s. s.fault) stop ≡ None → stop ≡ None
none-met None none = refl
none-met (Some stop) none = absurd (cc)

no-stop-met : (query : RankQuery) → met_fault query ≡ None → first_stop query.turn query.turns (begun_jobs query) ≡ None
unfolding met_fault
no-stop-met query none = none-met (first_stop query.turn query.turns (begun_jobs query)) none

-- a job that is done in turns that meet no stop has none
done-stop : (query : RankQuery) (index : ℕ) → IsRankQuery query → met_fault query ≡ None → index < query.jobs →
    is_done query.jobs query.turn query.turns index (ranked_list (task_at query (query.first + index))) ≡ true →
    stop_of (task_at query (query.first + index)) ≡ None
done-stop query index is none within done =
    done-no_stop query.turn query.turns (begun_jobs query) index (job_at query (query.first + index)) is.some_turn
    (no-stop-met query none) (begun-at query index within)
    (subst (λ (n : ℕ). is_done n query.turn query.turns index (ranked_list (task_at query (query.first + index))) ≡ true)
    (sym (length-begun_jobs query)) done)

part-is : (query : RankQuery) (index : ℕ) (job : RankedJob) → IsRankQuery query → met_fault query ≡ None →
    index < query.jobs →
    job ≡ after_rounds query.jobs query.turn query.turns index (job_at query (query.first + index)) →
    IsRankedPart query index job
part-is query index job is none within after =
    let task : RankTask = task_at query (query.first + index) in
    let list : List RankedEntry = ranked_list task in
    let given : job.found ≡ given_in_rounds query.jobs query.turn query.turns index list =
    ap (λ (j : RankedJob). j.found) after in
    let finished : job.finished ≡ is_done query.jobs query.turn query.turns index list =
    ap (λ (j : RankedJob). j.finished) after in
    let left : List RankedEntry = left_in_rounds query.jobs query.turn query.turns index list in
    let parts : job.found ++ left ≡ list =
    ap (λ l. l ++ left) given ∙ given-left query.jobs query.turn query.turns index list in
    let candidates = found-front task job.found left parts in
    record {
      given = given;
      done = finished;
      behind = map (λ (e : RankedEntry). e.formula) left ++ unlisted task;
      candidates = candidates;
      whole = λ (done : job.finished ≡ true).
          (let all : is_done query.jobs query.turn query.turns index list ≡ true = sym finished ∙ done in
          let stop = done-stop query index is none within all in
          let formulas = found-whole task job.found stop (given ∙ given-whole query.jobs query.turn query.turns index list all) in
          nothing-behind (map (λ (e : RankedEntry). e.formula) job.found) _ (candidates ∙ sym formulas));
      each = All-from_recursion (λ (e : RankedEntry). e ≡ ranked task e.formula) job.found
          (found-each task job.found left parts);
    }

-- where no stop is met
pub ranked-parts : (query : RankQuery) → IsRankQuery query → met_fault query ≡ None → AreRankedParts query
ranked-parts query is none index job there =
    let within : index < length (ranked_jobs query) = slice_get_within (ranked_jobs query) index job there in
    let count = length-ranked_jobs query in
    let inside : index < query.jobs = omega (arith, within, count) in
    let at = ranked-at query index inside in
    let same : job ≡ after_rounds query.jobs query.turn query.turns index (job_at query (query.first + index)) = cc in
    part-is query index job is none inside same
