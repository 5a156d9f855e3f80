-- A job that is done in rounds that meet no stop has none.
use Rattle.std.proofs.Common.{◌≡◌, ℕ, zero, suc, ◌+◌, ◌<◌, ◌≤◌, true, false, cond, List, [], ◌∷◌, length, refl, sym, ap, ◌∙◌, subst, arith}
use Rattle.std.specs.Prelude.{Option, Some, None, option_map, option_and_then, slice_get, nat_lt, if◌then◌else◌}
use Rattle.std.proofs.lemmas.Bool.{ltb-false, ltb-true, lt-ltb}
use Rattle.std.proofs.lemmas.Option.{slice_get_within}
use Rattle.job_turns.specs.Turns.{Progress}
use Rattle.turn_rounds.specs.Rounds.{is_done, round_allowance}
use Rattle.turn_rounds.specs.Stops.{Stop, end_turn, stop_at, earlier, first_from, first_stop, is_given}
use Rattle.turn_rounds.proofs.ShareLaws.{ended}

-- the earlier one of two is no later than either
earlier-own : {Fault : Type 0} (stop : Stop Fault) (other : Option (Stop Fault)) →
    (first : Stop Fault) × (earlier (Some stop) other ≡ Some first) × (first.turn ≤ stop.turn)
earlier-own stop None = (stop, refl, omega arith)
earlier-own {Fault} stop (Some its) =
    elim (nat_lt its.turn stop.turn) as (λ b. nat_lt its.turn stop.turn ≡ b →
    (first : Stop Fault) × (cond b (Some its) (Some stop) ≡ Some first) × (first.turn ≤ stop.turn)) [
      | true ↦ λ e. (its, refl, let less = ltb-true its.turn stop.turn e in omega (arith, less))
      | false ↦ λ e. (stop, refl, omega arith)
    ] refl

earlier-other : {Fault : Type 0} (own : Option (Stop Fault)) (stop : Stop Fault) →
    (first : Stop Fault) × (earlier own (Some stop) ≡ Some first) × (first.turn ≤ stop.turn)
earlier-other None stop = (stop, refl, omega arith)
earlier-other {Fault} (Some its) stop =
    elim (nat_lt stop.turn its.turn) as (λ b. nat_lt stop.turn its.turn ≡ b →
    (first : Stop Fault) × (cond b (Some stop) (Some its) ≡ Some first) × (first.turn ≤ stop.turn)) [
      | true ↦ λ e. (stop, refl, omega arith)
      | false ↦ λ e. (its, refl, let more = ltb-false stop.turn its.turn e in omega (arith, more))
    ] refl

-- where a job has a stop, one is met first, and no later than it
first-no_later : {Item Fault : Type 0} (jobs allow place : ℕ) (list : List (Progress Item Fault)) (at : ℕ)
    (job : Progress Item Fault) (fault : Fault) → slice_get list at ≡ Some job → job.stop ≡ Some fault →
    (first : Stop Fault) × (first_from jobs allow place list ≡ Some first)
    × (first.turn ≤ end_turn jobs allow (place + at) (length job.left))
first-no_later jobs allow place [] at job fault is stop = absurd (cc)
first-no_later {Item} {Fault} jobs allow place (own ∷ rest) zero job fault is stop =
    let same : own ≡ job = cc in
    let stop_by : Fault → Stop Fault = λ x. record {
      turn = end_turn jobs allow place (length job.left);
      job = place;
      fault = x;
    } in
    let its : Stop Fault = stop_by fault in
    let met : stop_at jobs allow place own ≡ Some its =
    ap (λ (j : Progress Item Fault). stop_at jobs allow place j) same ∙ ap (option_map stop_by) stop in
    let first = earlier-own its (first_from jobs allow (place + 1) rest) in
    let here : place + zero ≡ place = omega arith in (
      first.0,
      ap (λ s. earlier s (first_from jobs allow (place + 1) rest)) met ∙ first.1,
      subst (λ p. first.0.turn ≤ end_turn jobs allow p (length job.left)) (sym here) first.2,
    )
first-no_later {Item} {Fault} jobs allow place (own ∷ rest) (suc at) job fault is stop =
    let behind = first-no_later jobs allow (place + 1) rest at job fault is stop in
    let first = earlier-other (stop_at jobs allow place own) behind.0 in
    let here : place + 1 + at ≡ place + suc at = omega arith in
    let later : behind.0.turn ≤ end_turn jobs allow (place + suc at) (length job.left) =
    subst (λ p. behind.0.turn ≤ end_turn jobs allow p (length job.left)) here behind.2 in
    let earliest = first.2 in (
      first.0,
      ap (λ s. earlier (stop_at jobs allow place own) s) behind.1 ∙ first.1,
      omega (arith, earliest, later),
    )

given-first : {Fault : Type 0} (turns : Option ℕ) (first : Option (Stop Fault)) (stop : Stop Fault) → first ≡ Some stop →
    is_given turns stop.turn ≡ true →
    option_and_then (λ (s : Stop Fault). if is_given turns s.turn then Some s else None) first ≡ None → ⊥
given-first turns first stop is given none =
    let some : option_and_then (λ (s : Stop _). if is_given turns s.turn then Some s else None) first ≡ Some stop =
    rw is (rw given refl) in cc

-- the turn in which a job that is done met its end was given
end-given : {Item : Type 0} (jobs allow place : ℕ) (turns : Option ℕ) (items : List Item) (turn : ℕ) → 1 ≤ allow →
    place < jobs → is_done jobs allow turns place items ≡ true → turn ≤ end_turn jobs allow place (length items) →
    is_given turns turn ≡ true
end-given jobs allow place None items turn some within done before = refl
end-given jobs allow place (Some count) items turn some within done before =
    let more : length items < round_allowance jobs allow count place = ltb-true (length items) _ done in
    let met = ended jobs allow count place (length items) some within more in
    lt-ltb turn count (omega (arith, before, met))

pub done-no_stop : {Item Fault : Type 0} (allow : ℕ) (turns : Option ℕ) (jobs : List (Progress Item Fault)) (place : ℕ)
    (job : Progress Item Fault) → 1 ≤ allow → first_stop allow turns jobs ≡ None →
    slice_get jobs place ≡ Some job → is_done (length jobs) allow turns place job.left ≡ true → job.stop ≡ None
done-no_stop {Item} {Fault} allow turns jobs place job some none is done = cases job.stop refl
  where
    cases : (stop : Option Fault) → job.stop ≡ stop → stop ≡ None
    cases None e = refl
    cases (Some fault) e =
        let first = first-no_later (length jobs) allow 0 jobs place job fault is e in
        let here : 0 + place ≡ place = omega arith in
        let before : first.0.turn ≤ end_turn (length jobs) allow place (length job.left) =
        subst (λ p. first.0.turn ≤ end_turn (length jobs) allow p (length job.left)) here first.2 in
        absurd (given-first turns (first_from (length jobs) allow 0 jobs) first.0 first.1
        (end-given (length jobs) allow place turns job.left first.0.turn some (slice_get_within jobs place job is) done
        before) none)
