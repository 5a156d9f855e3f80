-- A list of turns: each job goes by the sum of its own allowances.
use Rattle.std.proofs.Common.{◌≡◌, ◌≢◌, ℕ, ◌+◌, ◌-◌, ◌<◌, ◌≤◌, ◌⊎◌, inl, inr, zero, suc, Bool, true, false, cond}
use Rattle.std.proofs.Common.{List, [], ◌∷◌, ◌++◌, length, map, take, drop, set, get_or, refl, sym, ap, subst, ◌∙◌}
use Rattle.std.proofs.Common.{arith}
use Rattle.std.specs.Prelude.{Option, Some, None, Result, Ok, Err, slice_get, sum_by, nat_eq}
use Rattle.std.specs.List.{enumerate_from}
use Rattle.std.specs.Option.{option_map}
use Rattle.std.proofs.lemmas.List.{take_more}
use Rattle.std.proofs.lemmas.List.Sums.{sum_by-append}
use Rattle.std.proofs.lemmas.List.FromFn.{length-enumerate_from}
use Rattle.std.proofs.lemmas.List.{length-map, length-drop}
use Rattle.std.proofs.lemmas.Bool.{cases_eq}
use Rattle.std.proofs.lemmas.Bool.Decides.{nat_tests}
use Rattle.std.proofs.Math.Seq.{split_at}
use Rattle.job_turns.specs.Turns.{Progress, progress_after, allowance, board_after, MeetsStop, MeetsNoStop, TakesTurn}
use Rattle.job_turns.specs.Turns.{TurnOnBoard, EndsAtFault}
use Rattle.job_turns.specs.declared.board.Turn.{Turn}
use Rattle.job_turns.specs.declared.board.TurnEnd.{TurnEnd}
use Rattle.job_turns.specs.declared.board.TurnEnd.TheVariants.{Full, Finished}
use Rattle.job_turns.specs.declared.board.BoardFault.{BoardFault}
use Rattle.job_turns.proofs.ProgressLaws.{progress_after-zero, progress_after-add}

-- the jobs from a place on, each after its own allowance
abbrev after_from : {Item Fault : Type 0} → (ℕ → ℕ) → ℕ → List (Progress Item Fault) → List (Progress Item Fault)
after_from allowed place jobs = map (λ job. progress_after (allowed job.0) job.1) (enumerate_from place jobs)

-- no turn
none_allowed : {Item Fault : Type 0} (place : ℕ) (jobs : List (Progress Item Fault))
    → after_from (λ _. 0) place jobs ≡ jobs
none_allowed place [] = refl
none_allowed place (job ∷ jobs) = rw (progress_after-zero job, none_allowed (place + 1) jobs) refl

pub board_after-none : {Item Fault : Type 0} (jobs : List (Progress Item Fault)) → board_after [] jobs ≡ jobs
board_after-none jobs = none_allowed 0 jobs

pub no_stop_in_none : {Item Fault : Type 0} (jobs : List (Progress Item Fault)) → MeetsNoStop [] jobs
no_stop_in_none jobs place fault meets = absurd (omega (arith, meets.allowed))

-- one turn more
allowance-more : (turns : List Turn) (turn : Turn) (place : ℕ)
    → allowance (turns ++ turn ∷ []) place ≡ allowance turns place + cond (nat_eq turn.job place) turn.allow 0
allowance-more turns turn place =
    sum_by-append (λ (t : Turn). cond (nat_eq t.job place) t.allow 0) turns (turn ∷ []) ∙ omega arith

allowance-its : (turns : List Turn) (turn : Turn) (place : ℕ) → place ≡ turn.job
    → allowance (turns ++ turn ∷ []) place ≡ allowance turns place + turn.allow
allowance-its turns turn place is = allowance-more turns turn place ∙ grind (arith, nat_tests)

allowance-others : (turns : List Turn) (turn : Turn) (place : ℕ) → place ≢ turn.job
    → allowance (turns ++ turn ∷ []) place ≡ allowance turns place
allowance-others turns turn place other = allowance-more turns turn place ∙ grind (arith, nat_tests)

-- the same allowances from a place on
same_allowed : {Item Fault : Type 0} (allowed allowed' : ℕ → ℕ) (place : ℕ) (jobs : List (Progress Item Fault))
    → ((p : ℕ) → place ≤ p → allowed' p ≡ allowed p) → after_from allowed' place jobs ≡ after_from allowed place jobs
same_allowed allowed allowed' place [] is = refl
same_allowed allowed allowed' place (job ∷ jobs) is =
    rw (is place (omega arith), same_allowed allowed allowed' (place + 1) jobs (λ p h. is p (omega arith))) refl

-- one job goes on
one_goes_on : {Item Fault : Type 0} (allowed allowed' : ℕ → ℕ) (allow its place i : ℕ)
    (jobs : List (Progress Item Fault)) (old new : Progress Item Fault)
    → its ≡ place + i → ((p : ℕ) → p ≢ its → allowed' p ≡ allowed p) → allowed' its ≡ allowed its + allow
    → slice_get (after_from allowed place jobs) i ≡ Some old → new ≡ progress_after allow old
    → set (after_from allowed place jobs) i new ≡ after_from allowed' place jobs
one_goes_on allowed allowed' allow its place i [] old new its_is others more at is = refl
one_goes_on {Item} {Fault} allowed allowed' allow its place zero (job ∷ jobs) old new its_is others more at is =
    let here : its ≡ place = omega arith in
    let old_is : old ≡ progress_after (allowed place) job = cc in
    let total : allowed' place ≡ allowed place + allow = subst (λ p. allowed' p ≡ allowed p + allow) here more in
    let new_is : new ≡ progress_after (allowed' place) job =
    is ∙ ap (progress_after allow) old_is ∙ progress_after-add (allowed place) allow job
    ∙ ap (λ n. progress_after n job) (sym total) in
    let rest : after_from allowed' (place + 1) jobs ≡ after_from allowed (place + 1) jobs =
    same_allowed allowed allowed' (place + 1) jobs (λ p h. others p (omega arith)) in
    rw (new_is, rest) refl
one_goes_on allowed allowed' allow its place (suc i) (job ∷ jobs) old new its_is others more at is =
    let first : allowed' place ≡ allowed place = others place (omega arith) in
    rw (first, one_goes_on allowed allowed' allow its (place + 1) i jobs old new (omega arith) others more at is) refl

pub board_after-more : {Item Fault : Type 0} (turns : List Turn) (turn : Turn) (jobs : List (Progress Item Fault))
    (old new : Progress Item Fault)
    → slice_get (board_after turns jobs) turn.job ≡ Some old → new ≡ progress_after turn.allow old
    → set (board_after turns jobs) turn.job new ≡ board_after (turns ++ turn ∷ []) jobs
board_after-more turns turn jobs old new at is =
    one_goes_on (allowance turns) (allowance (turns ++ turn ∷ [])) turn.allow turn.job 0 turn.job jobs old new
    (omega arith)
    (λ p other. allowance-others turns turn p other) (allowance-its turns turn turn.job refl) at is

-- a job after its allowance
get-after_from : {Item Fault : Type 0} (allowed : ℕ → ℕ) (place i : ℕ) (jobs : List (Progress Item Fault))
    (job : Progress Item Fault) → slice_get jobs i ≡ Some job
    → slice_get (after_from allowed place jobs) i ≡ Some (progress_after (allowed (place + i)) job)
get-after_from allowed place i [] job at = absurd (cc)
get-after_from allowed place zero (first ∷ jobs) job at = let e : place + zero ≡ place = omega arith in
    rw e (ap (option_map (λ j. progress_after (allowed place) j)) at)
get-after_from allowed place (suc i) (first ∷ jobs) job at =
    let e : place + suc i ≡ place + 1 + i = omega arith in rw e (get-after_from allowed (place + 1) i jobs job at)

pub get-board_after : {Item Fault : Type 0} (turns : List Turn) (place : ℕ) (jobs : List (Progress Item Fault))
    (job : Progress Item Fault) → slice_get jobs place ≡ Some job
    → slice_get (board_after turns jobs) place ≡ Some (progress_after (allowance turns place) job)
get-board_after turns place jobs job at =
    let e : 0 + place ≡ place = omega arith in rw e at (get-after_from (allowance turns) 0 place jobs job at)

pub length-board_after : {Item Fault : Type 0} (turns : List Turn) (jobs : List (Progress Item Fault))
    → length (board_after turns jobs) ≡ length jobs
length-board_after turns jobs =
    length-map (enumerate_from 0 jobs) (λ job. progress_after (allowance turns job.0) job.1)
    ∙ length-enumerate_from 0 jobs

-- a turn that meets no fault gives all that it allows
given_in_turn : {Item Fault : Type 0} (place allow : ℕ) (old new : Progress Item Fault) (end : TurnEnd)
    → TakesTurn place allow old (Ok end) new → new ≡ progress_after allow old
given_in_turn place allow old new Full takes = takes.1
given_in_turn place allow old new (Finished gave) takes = takes.3

-- a job with a stop has as many items left as a turn allows that meets no fault
enough_left : {Item Fault : Type 0} (place allow : ℕ) (old new : Progress Item Fault) (end : TurnEnd) (fault : Fault)
    → old.stop ≡ Some fault → TakesTurn place allow old (Ok end) new → allow ≤ length old.left
enough_left place allow old new Full fault stop takes = takes.0
enough_left place allow old new (Finished gave) fault stop takes = let none = takes.1 in cc

-- so it meets no stop
no_stop-more : {Item Fault : Type 0} (turns : List Turn) (turn : Turn) (jobs : List (Progress Item Fault))
    (old new : Progress Item Fault) (end : TurnEnd)
    → MeetsNoStop turns jobs → slice_get (board_after turns jobs) turn.job ≡ Some old
    → TakesTurn turn.job turn.allow old (Ok end) new → MeetsNoStop (turns ++ turn ∷ []) jobs
no_stop-more {Item} {Fault} turns turn jobs old new end none at takes place fault meets =
    elim (cases_eq place turn.job) [ inl same ↦ of_its same | inr other ↦ of_others other ]
  where
    of_others : place ≢ turn.job → ⊥
    of_others other = none place fault (record {
      job = meets.job;
      at = meets.at;
      stop = meets.stop;
      allowed = omega (arith, allowance-others turns turn place other, meets.allowed);
    })

    of_its : place ≡ turn.job → ⊥
    of_its same =
        let its : slice_get (board_after turns jobs) place ≡ Some old =
        ap (λ p. slice_get (board_after turns jobs) p) same ∙ at in
        let get = get-board_after turns place jobs meets.job meets.at in
        let old_is : old ≡ progress_after (allowance turns place) meets.job = cc in
        let stop : old.stop ≡ Some fault = ap (λ (j : Progress Item Fault). j.stop) old_is ∙ meets.stop in
        let left : length old.left ≡ length meets.job.left - allowance turns place =
        ap (λ (j : Progress Item Fault). length j.left) old_is ∙ length-drop (allowance turns place) meets.job.left in
        let enough : turn.allow ≤ length old.left = enough_left turn.job turn.allow old new end fault stop takes in
        let before : length meets.job.left < allowance turns place → ⊥ =
        λ h. none place fault (record { job = meets.job; at = meets.at; stop = meets.stop; allowed = h }) in
        omega (arith, allowance-its turns turn place same, meets.allowed, before)

-- one more turn was given
pub play_more : {Item Fault : Type 0} (turns : List Turn) (i : ℕ) (d : Turn)
    (jobs now next : List (Progress Item Fault)) (end : TurnEnd)
    → i < length turns → MeetsNoStop (take i turns) jobs → now ≡ board_after (take i turns) jobs
    → TurnOnBoard (get_or turns i d).job (get_or turns i d).allow now (Ok end) next
    → MeetsNoStop (take (i + 1) turns) jobs × (next ≡ board_after (take (i + 1) turns) jobs)
play_more turns i d jobs now next end within none now_is step =
    let turn = get_or turns i d in
    let at : slice_get (board_after (take i turns) jobs) turn.job ≡ Some step.old =
    ap (λ l. slice_get l turn.job) (sym now_is) ∙ step.at in
    rw (take_more turns i d within) (
      no_stop-more (take i turns) turn jobs step.old step.new end none at step.turn,
      step.others ∙ ap (λ l. set l turn.job step.new) now_is
          ∙ board_after-more (take i turns) turn jobs step.old step.new at
          (given_in_turn turn.job turn.allow step.old step.new end step.turn),
    )

-- a turn met a fault
pub play_ends : {Item Fault : Type 0} (turns : List Turn) (i : ℕ) (d : Turn)
    (jobs now next : List (Progress Item Fault)) (fault : BoardFault Fault)
    → i < length turns → MeetsNoStop (take i turns) jobs → now ≡ board_after (take i turns) jobs
    → TurnOnBoard (get_or turns i d).job (get_or turns i d).allow now (Err fault) next
    → EndsAtFault turns jobs fault next
play_ends turns i d jobs now next fault within none now_is step = record {
  given = take i turns;
  turn = get_or turns i d;
  rest = drop (suc i) turns;
  parts = split_at turns i d within;
  no_stop = none;
  at_fault = subst (λ b. TurnOnBoard (get_or turns i d).job (get_or turns i d).allow b (Err fault) next) now_is step;
}
