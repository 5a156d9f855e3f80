-- How many of the first turns of rounds are those of one job.
use Rattle.std.proofs.Common.{◌≡◌, ◌≢◌, ℕ, ◌+◌, ◌*◌, ◌/◌, ◌%◌, ◌<◌, ◌≤◌, inl, inr, zero, suc, cond, ap}
use Rattle.std.proofs.Common.{◌∙◌, sym, arith}
use Rattle.std.specs.Prelude.{nat_eq}
use Rattle.std.proofs.lemmas.Bool.{cases_eq, cases_order}
use Rattle.std.proofs.lemmas.Bool.Decides.{nat_tests}
use Rattle.std.proofs.lemmas.List.FromFn.{sum_by-map-range_with_len_more}
use Rattle.std.proofs.lemmas.Nat.{div-add-mod', mod-mul-add, div_below, le-div, mul-le}
use Rattle.job_turns.specs.declared.board.Turn.{Turn}
use Rattle.turn_rounds.specs.Rounds.{round_turn, round_allowance}
use Rattle.turn_rounds.specs.Stops.{end_turn}

-- one turn more
allowance-more : (jobs allow count place : ℕ) → round_allowance jobs allow (count + 1) place
    ≡ round_allowance jobs allow count place + cond (nat_eq (count % jobs) place) allow 0
allowance-more jobs allow count place =
    sum_by-map-range_with_len_more (λ (t : Turn). cond (nat_eq t.job place) t.allow 0) (round_turn jobs allow) 0 count
    count (omega arith)

pub allowance-its : (jobs allow count place : ℕ) → count % jobs ≡ place
    → round_allowance jobs allow (count + 1) place ≡ round_allowance jobs allow count place + allow
allowance-its jobs allow count place is = allowance-more jobs allow count place ∙ grind (arith, nat_tests)

pub allowance-others : (jobs allow count place : ℕ) → count % jobs ≢ place
    → round_allowance jobs allow (count + 1) place ≡ round_allowance jobs allow count place
allowance-others jobs allow count place other = allowance-more jobs allow count place ∙ grind (arith, nat_tests)

pub allowance-grows : (jobs allow count place : ℕ)
    → round_allowance jobs allow count place ≤ round_allowance jobs allow (count + 1) place
allowance-grows jobs allow count place =
    elim (cases_eq (count % jobs) place) [
      | inl same ↦ omega (arith, allowance-its jobs allow count place same)
      | inr other ↦ omega (arith, allowance-others jobs allow count place other)
    ]

-- so many turns of the job are among the first ones: each of them is, and the next one isn't
record Share (jobs allow count place : ℕ) : Type 0 where
  own : ℕ
  sum : round_allowance jobs allow count place ≡ own * allow
  next : count ≤ own * jobs + place
  each : (turn : ℕ) → turn < own → turn * jobs + place < count

row_more : (own rounds jobs : ℕ) → own < rounds → own * jobs + jobs ≤ rounds * jobs
row_more own rounds jobs fewer = let rows : (own + 1) * jobs ≤ rounds * jobs =
    mul-le (own + 1) jobs rounds jobs (omega arith) (omega arith) in
    grind (arith, rows)

-- the number of a turn of the job is told by those before it
its_next : (jobs count place own : ℕ) → place < jobs → count % jobs ≡ place → count ≤ own * jobs + place
    → ((turn : ℕ) → turn < own → turn * jobs + place < count) → own * jobs + place ≡ count
its_next jobs count place own within is next each =
    let rounds = count / jobs in
    let at : rounds * jobs + place ≡ count = ap (λ p. rounds * jobs + p) (sym is) ∙ div-add-mod' count jobs in
    elim (cases_order rounds own) [
      | inl same ↦ ap (λ n. n * jobs + place) (sym same) ∙ at
      | inr (inl before) ↦ absurd (omega (arith, at, each rounds before))
      | inr (inr behind) ↦ absurd (omega (arith, at, next, row_more own rounds jobs behind))
    ]

one_more : (own jobs place count : ℕ) → own * jobs + place ≡ count → place < jobs → count + 1 ≤ (own + 1) * jobs + place
one_more own jobs place count is within = grind arith

share_its : (jobs allow count place : ℕ) → place < jobs → Share jobs allow count place → count % jobs ≡ place
    → Share jobs allow (count + 1) place
share_its jobs allow count place within share same =
    let at : share.own * jobs + place ≡ count = its_next jobs count place share.own within same share.next share.each in
    record {
      own = share.own + 1;
      sum = allowance-its jobs allow count place same ∙ ap (λ n. n + allow) share.sum ∙ grind arith;
      next = one_more share.own jobs place count at within;
      each = λ turn h. elim (cases_eq turn share.own) [
        | inl last ↦ omega (arith, at, ap (λ n. n * jobs + place) last)
        | inr before ↦ omega (arith, share.each turn (omega (arith, before)))
      ];
    }

share_others : (jobs allow count place : ℕ) → place < jobs → Share jobs allow count place → count % jobs ≢ place
    → Share jobs allow (count + 1) place
share_others jobs allow count place within share other =
    let apart : share.own * jobs + place ≢ count =
    λ e. other (ap (λ n. n % jobs) (sym e) ∙ mod-mul-add share.own jobs place within) in
    record {
      own = share.own;
      sum = allowance-others jobs allow count place other ∙ share.sum;
      next = omega (arith, apart, share.next);
      each = λ turn h. omega (arith, share.each turn h);
    }

share_more : (jobs allow count place : ℕ) → place < jobs → Share jobs allow count place
    → Share jobs allow (count + 1) place
share_more jobs allow count place within share =
    elim (cases_eq (count % jobs) place) [
      | inl same ↦ share_its jobs allow count place within share same
      | inr other ↦ share_others jobs allow count place within share other
    ]

share_of : (jobs allow count place : ℕ) → place < jobs → Share jobs allow count place
share_of jobs allow zero place within = record {
  own = 0;
  sum = omega arith;
  next = omega arith;
  each = λ turn h. absurd (omega arith);
}
share_of jobs allow (suc count) place within = let e : suc count ≡ count + 1 = omega arith in
    rw e (share_more jobs allow count place within (share_of jobs allow count place within))

-- a job that was allowed more than so many items was allowed that in a turn before
pub ended : (jobs allow count place items : ℕ) → 1 ≤ allow → place < jobs
    → items < round_allowance jobs allow count place → end_turn jobs allow place items < count
ended jobs allow count place items some within more =
    let share = share_of jobs allow count place within in
    share.each (items / allow) (div_below items allow share.own (omega arith) (omega (arith, share.sum, more)))

-- and one that wasn't will be in a later one
pub not_ended : (jobs allow count place items : ℕ) → 1 ≤ allow → place < jobs
    → round_allowance jobs allow count place ≤ items → count ≤ end_turn jobs allow place items
not_ended jobs allow count place items some within fewer =
    let share = share_of jobs allow count place within in
    let turns : share.own ≤ items / allow =
    le-div share.own items allow (omega arith) (omega (arith, share.sum, fewer)) in
    omega (arith, share.next, mul-le share.own jobs (items / allow) jobs turns (omega arith))

-- a turn is that of one job
pub its_turn : (jobs allow place items : ℕ) → place < jobs → end_turn jobs allow place items % jobs ≡ place
its_turn jobs allow place items within = mod-mul-add (items / allow) jobs place within
