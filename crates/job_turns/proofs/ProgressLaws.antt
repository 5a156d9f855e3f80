-- How far a job comes, turn by turn.
use Rattle.std.proofs.Common.{◌≡◌, ℕ, ◌+◌, ◌-◌, ◌<◌, ◌≤◌, Bool, true, false, List, [], ◌∷◌, ◌++◌, length, take, drop}
use Rattle.std.proofs.Common.{refl, sym, ap, ◌∙◌, arith}
use Rattle.std.specs.Prelude.{◌&&◌, ◌||◌, nat_lt, Option, Some, None, is_none, Result, Ok, Err}
use Rattle.std.proofs.lemmas.List.{append_assoc, append-nil, take_all, drop_all, drop-drop, length-drop}
use Rattle.std.proofs.lemmas.Bool.Decides.{nat_tests}
use Rattle.std.proofs.Math.Seq.{take-add}
use Rattle.std.proofs.Math.ListN.{take-append-drop}
use Rattle.job_turns.specs.Turns.{Progress, progress_after, items_of, TakesTurn}
use Rattle.job_turns.specs.Steps.{TakesItem}
use Rattle.job_turns.specs.declared.board.TurnEnd.TheVariants.{Full, Finished}
use Rattle.job_turns.specs.declared.board.TurnEnd.{TurnEnd}
use Rattle.job_turns.specs.declared.board.BoardFault.{BoardFault}
use Rattle.job_turns.specs.declared.board.BoardFault.TheVariants.{Job, Memory}

-- records with the same fields
same : {Item Fault : Type 0} (found found' left left' : List Item) (stop : Option Fault) (finished finished' : Bool)
    → found ≡ found' → left ≡ left' → finished ≡ finished'
    → (let a : Progress Item Fault = record { found = found; left = left; stop = stop; finished = finished } in
    let b : Progress Item Fault = record { found = found'; left = left'; stop = stop; finished = finished' } in a ≡ b)
same found found' left left' stop finished finished' found_is left_is finished_is =
    rw (found_is, left_is, finished_is) refl

or_false : (b : Bool) → (b || false) ≡ b
or_false true = refl
or_false false = refl

and_false : (b : Bool) → (b && false) ≡ false
and_false true = refl
and_false false = refl

not_below_zero : (n : ℕ) → nat_lt n 0 ≡ false
not_below_zero n = grind (arith, nat_tests)

below_either : (n a b : ℕ) → (nat_lt n a || nat_lt (n - a) b) ≡ nat_lt n (a + b)
below_either n a b = grind (arith, nat_tests)

either_first : (second none : Bool) → (none || (second && none)) ≡ none
either_first second true = refl
either_first second false = and_false second

either : (done first second both none : Bool) → (first || second) ≡ both
    → ((done || (first && none)) || (second && none)) ≡ (done || (both && none))
either true first second both none is = refl
either false true second both none is = either_first second none ∙ ap (λ (b : Bool). b && none) is
either false false second both none is = ap (λ (b : Bool). b && none) is

-- nothing allowed
pub progress_after-zero : {Item Fault : Type 0} (job : Progress Item Fault) → progress_after 0 job ≡ job
progress_after-zero job =
    same _ _ _ _ job.stop _ _ (append-nil job.found) refl
    (rw (not_below_zero (length job.left)) (or_false job.finished))

-- one allowance and then another are their sum
pub progress_after-add : {Item Fault : Type 0} (a b : ℕ) (job : Progress Item Fault)
    → progress_after b (progress_after a job) ≡ progress_after (a + b) job
progress_after-add a b job =
    same _ _ _ _ job.stop _ _
    (append_assoc job.found (take a job.left) (take b (drop a job.left))
    ∙ ap (λ l. job.found ++ l) (sym (take-add a b job.left)))
    (drop-drop b a job.left)
    (either job.finished (nat_lt (length job.left) a) (nat_lt (length (drop a job.left)) b)
    (nat_lt (length job.left) (a + b)) (is_none job.stop)
    (rw (length-drop a job.left) (below_either (length job.left) a b)))

-- a job keeps its items
pub items_of-progress_after : {Item Fault : Type 0} (allowed : ℕ) (job : Progress Item Fault)
    → items_of (progress_after allowed job) ≡ items_of job
items_of-progress_after allowed job =
    append_assoc job.found (take allowed job.left) (drop allowed job.left)
    ∙ ap (λ l. job.found ++ l) (take-append-drop allowed job.left)

-- where no item is left behind the first k, more than k give no more
no_more : {Item Fault : Type 0} (k allowed : ℕ) (job : Progress Item Fault) (finished : Bool) → length job.left ≤ k
    → length job.left ≤ allowed → finished ≡ (progress_after allowed job).finished
    → (let a : Progress Item Fault = record {
      found = job.found ++ take k job.left;
      left = drop k job.left;
      stop = job.stop;
      finished = finished;
    } in a ≡ progress_after allowed job)
no_more k allowed job finished all enough is =
    same _ _ _ _ job.stop _ _ (ap (λ l. job.found ++ l)
    (take_all k job.left all ∙ sym (take_all allowed job.left enough)))
    (drop_all k job.left all ∙ sym (drop_all allowed job.left enough)) is

-- one more item is found
pub one_more : {Item Fault : Type 0} (k : ℕ) (before now next : Progress Item Fault) → now ≡ progress_after k before
    → k ≤ length before.left → 0 < length now.left → next ≡ progress_after 1 now
    → (k + 1 ≤ length before.left) × (next ≡ progress_after (k + 1) before)
one_more k before now next now_is within some next_is =
    let rest : length now.left ≡ length before.left - k = ap (λ j. length j.left) now_is
    ∙ length-drop k before.left in
    (omega arith, next_is ∙ ap (progress_after 1) now_is ∙ progress_after-add k 1 before)

-- none was left
all_given : {Item Fault : Type 0} (k : ℕ) (before now : Progress Item Fault) → now ≡ progress_after k before
    → k ≤ length before.left → now.left ≡ [] → length before.left ≡ k
all_given k before now now_is within none =
    let rest : length now.left ≡ length before.left - k = ap (λ j. length j.left) now_is
    ∙ length-drop k before.left in
    let empty : length now.left ≡ 0 = ap length none in
    omega arith

finished_now : (done none : Bool) (length allow : ℕ) → length < allow → none ≡ true
    → true ≡ (done || (nat_lt length allow && none))
finished_now true none length allow fewer is = refl
finished_now false none length allow fewer is = let test : nat_lt length allow ≡ true = grind (arith, nat_tests) in
    rw (test, is) refl

-- a turn of a job that has no more items and no stop
pub ends_finished : {Item Fault : Type 0} (place k allow : ℕ) (before now next : Progress Item Fault)
    → now ≡ progress_after k before → k ≤ length before.left → k < allow
    → TakesItem place now (Ok false) next → TakesTurn place allow before (Ok (Finished k))
    (record next { finished = true })
ends_finished {Item} {Fault} place k allow before now next now_is within fewer (none, no_stop, same_job) =
    let all : length before.left ≡ k = all_given k before now now_is within none in
    let stop : before.stop ≡ None = ap (λ (j : Progress Item Fault). j.stop) (sym now_is) ∙ no_stop in
    let finish : Progress Item Fault → Progress Item Fault = λ j. record j { finished = true } in (
      omega arith,
      stop,
      sym all,
      ap finish (same_job ∙ now_is)
          ∙ no_more k allow before true (omega arith) (omega arith)
          (finished_now before.finished (is_none before.stop) (length before.left) allow (omega arith)
          (ap is_none stop)),
    )

unfinished : (done none : Bool) (length k allow : ℕ) → length ≤ k → none ≡ false
    → (done || (nat_lt length k && none)) ≡ (done || (nat_lt length allow && none))
unfinished done none length k allow all is = rw (is, and_false (nat_lt length k), and_false (nat_lt length allow))
    refl

-- and of one that has a stop, or where memory is wanting
pub ends_at_fault : {Item Fault : Type 0} (place k allow : ℕ) (before now next : Progress Item Fault)
    (fault : BoardFault Fault) → now ≡ progress_after k before → k ≤ length before.left → k < allow
    → TakesItem place now (Err fault) next → TakesTurn place allow before (Err fault) next
ends_at_fault {Item} {Fault} place k allow before now next (Job job fault) now_is within fewer
    (none, stop_is, at, same_job) =
    let all : length before.left ≡ k = all_given k before now now_is within none in
    let stop : before.stop ≡ Some fault = ap (λ (j : Progress Item Fault). j.stop) (sym now_is) ∙ stop_is in (
      omega arith,
      stop,
      at,
      same_job ∙ now_is
          ∙ no_more k allow before (progress_after k before).finished (omega arith) (omega arith)
          (unfinished before.finished (is_none before.stop) (length before.left) k allow (omega arith)
          (ap is_none stop)),
    )
ends_at_fault place k allow before now next Memory now_is within fewer same_job =
    (k, fewer, within, same_job ∙ now_is)

-- whatever a turn answers, the job has come so far
pub comes_to : {Item Fault : Type 0} (place allow : ℕ) (before after : Progress Item Fault)
    (answer : Result TurnEnd (BoardFault Fault)) → TakesTurn place allow before answer after
    → (taken : ℕ) × (after ≡ progress_after taken before)
comes_to place allow before after (Ok Full) turn = (allow, turn.1)
comes_to place allow before after (Ok (Finished gave)) turn = (allow, turn.3)
comes_to place allow before after (Err (Job job fault)) turn = (allow, turn.3)
comes_to place allow before after (Err Memory) turn = (turn.0, turn.3)
