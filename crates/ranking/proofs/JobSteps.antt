-- How a job goes on by one candidate, and where it stops.
use Rattle.std.proofs.Common.{◌≡◌, ℕ, zero, suc, ◌+◌, ◌-◌, ◌≤◌, Bool, true, false, cond, List, [], ◌∷◌, length, map}
use Rattle.std.proofs.Common.{take, ltb, refl, sym, ap, subst, ◌∙◌, arith, add-one, ⊎_elim}
use Rattle.std.specs.Prelude.{Some, None, find, not}
use Rattle.std.specs.List.{before_first, position_or_len}
use Rattle.std.proofs.Math.Numerals.{one-add}
use Rattle.std.proofs.lemmas.Bool.{lt-ltb, le-ltb, ltb-true, ltb-false, cases_Bool}
use Rattle.written_items.specs.declared.item.Item.{Item}
use Rattle.ranking.specs.declared.fault.RankFault.TheVariants.{TooMany, Layer}
use Rattle.ranking.specs.Rankings.{RankTask, ion_in, is_over_limit, number_of, ranked, ranked_among, stop_among, stop_with}

-- ---- lists with a first candidate

take-none : {X : Type 0} (n : ℕ) → take n (let none : List X = [] in none) ≡ []
take-none zero = refl
take-none (suc n) = refl

before-goes : {X : Type 0} (p : X → Bool) (x : X) (xs : List X) → p x ≡ false →
    before_first p (x ∷ xs) ≡ x ∷ before_first p xs
before-goes p x xs fails =
    ap (λ b. take (cond (not b) (1 + position_or_len p xs) 0) (x ∷ xs)) fails
    ∙ ap (λ (n : ℕ). take n (x ∷ xs)) (one-add (position_or_len p xs))

before-stops : {X : Type 0} (p : X → Bool) (x : X) (xs : List X) → p x ≡ true → before_first p (x ∷ xs) ≡ []
before-stops p x xs passes = ap (λ b. take (cond (not b) (1 + position_or_len p xs) 0) (x ∷ xs)) passes

find-goes : {X : Type 0} (p : X → Bool) (x : X) (xs : List X) → p x ≡ false → find p (x ∷ xs) ≡ find p xs
find-goes p x xs fails = ap (λ b. cond b (Some x) (find p xs)) fails

find-stops : {X : Type 0} (p : X → Bool) (x : X) (xs : List X) → p x ≡ true → find p (x ∷ xs) ≡ Some x
find-stops p x xs passes = ap (λ b. cond b (Some x) (find p xs)) passes

many-goes : (r n m : ℕ) → m ≡ n + 1 → ltb (r + 1) m ≡ ltb r n
many-goes r n m is =
    ⊎_elim
    (λ (more : ltb r n ≡ true). lt-ltb (r + 1) m (omega (arith, ltb-true r n more, is)) ∙ sym more)
    (λ (few : ltb r n ≡ false). le-ltb (r + 1) m (omega (arith, ltb-false r n few, is)) ∙ sym few)
    (cases_Bool (ltb r n))

module _ (task : RankTask) (f : List (Item × ℕ)) (fs : List (List (Item × ℕ))) where
  abbrev over : List (Item × ℕ) → Bool
  over = is_over_limit task

  taken : (r : ℕ) → take (r + 1) (f ∷ fs) ≡ f ∷ take r fs
  taken r = rw add-one refl

  list-goes : (r : ℕ) → over f ≡ false → ranked_among task (r + 1) (f ∷ fs) ≡ ranked task f ∷ ranked_among task r fs
  list-goes r under =
      ap (λ xs. map (ranked task) (before_first over xs)) (taken r)
      ∙ ap (map (ranked task)) (before-goes over f (take r fs) under)

  stop-goes : (r : ℕ) → over f ≡ false → stop_among task (r + 1) (f ∷ fs) ≡ stop_among task r fs
  stop-goes r under =
      ap (λ xs. stop_with task (ltb (r + 1) (length (f ∷ fs))) (find over xs)) (taken r)
      ∙ ap (stop_with task (ltb (r + 1) (length (f ∷ fs)))) (find-goes over f (take r fs) under)
      ∙ ap (λ b. stop_with task b (find over (take r fs)))
      (many-goes r (length fs) (length (f ∷ fs)) (omega arith))

  list-stops : (r : ℕ) → over f ≡ true → ranked_among task (r + 1) (f ∷ fs) ≡ []
  list-stops r passes =
      ap (λ xs. map (ranked task) (before_first over xs)) (taken r)
      ∙ ap (map (ranked task)) (before-stops over f (take r fs) passes)

  stop-stops : (r : ℕ) → over f ≡ true →
      stop_among task (r + 1) (f ∷ fs) ≡ Some (Layer (number_of task) (ion_in task f))
  stop-stops r passes =
      ap (λ xs. stop_with task (ltb (r + 1) (length (f ∷ fs))) (find over xs)) (taken r)
      ∙ ap (stop_with task (ltb (r + 1) (length (f ∷ fs)))) (find-stops over f (take r fs) passes)

  -- the first candidate is given
  pub gives-first : (room : ℕ) → 1 ≤ room → over f ≡ false →
      (ranked_among task room (f ∷ fs) ≡ ranked task f ∷ ranked_among task (room - 1) fs)
      × (stop_among task (room - 1) fs ≡ stop_among task room (f ∷ fs))
  gives-first room some under =
      let whole : (room - 1) + 1 ≡ room = omega arith in (
        subst (λ (n : ℕ). ranked_among task n (f ∷ fs) ≡ ranked task f ∷ ranked_among task (room - 1) fs) whole
            (list-goes (room - 1) under),
        sym (subst (λ (n : ℕ). stop_among task n (f ∷ fs) ≡ stop_among task (room - 1) fs) whole
            (stop-goes (room - 1) under)),
      )

  -- the first candidate is over the limit
  pub stops-over : (room : ℕ) → 1 ≤ room → over f ≡ true →
      (ranked_among task room (f ∷ fs) ≡ [])
      × (stop_among task room (f ∷ fs) ≡ Some (Layer (number_of task) (ion_in task f)))
  stops-over room some passes =
      let whole : (room - 1) + 1 ≡ room = omega arith in (
        subst (λ (n : ℕ). ranked_among task n (f ∷ fs) ≡ []) whole (list-stops (room - 1) passes),
        subst (λ (n : ℕ). stop_among task n (f ∷ fs) ≡ Some (Layer (number_of task) (ion_in task f))) whole
            (stop-stops (room - 1) passes),
      )

  -- the first candidate is one too many
  pub stops-many : (room : ℕ) → room ≡ 0 →
      (ranked_among task room (f ∷ fs) ≡ []) × (stop_among task room (f ∷ fs) ≡ Some (TooMany (number_of task)))
  stops-many room none = (
    ap (λ (n : ℕ). ranked_among task n (f ∷ fs)) none,
    ap (λ (n : ℕ). stop_among task n (f ∷ fs)) none
        ∙ ap (λ b. stop_with task b None) (lt-ltb 0 (length (f ∷ fs)) (omega arith)),
  )

-- no candidate is left
pub at-end : (task : RankTask) (room : ℕ) →
    (ranked_among task room [] ≡ []) × (stop_among task room [] ≡ None)
at-end task room = (
  ap (λ xs. map (ranked task) (before_first (is_over_limit task) xs)) (take-none room),
  ap (λ xs. stop_with task (ltb room 0) (find (is_over_limit task) xs)) (take-none room)
      ∙ ap (λ b. stop_with task b None) (le-ltb room 0 (omega arith)),
)
