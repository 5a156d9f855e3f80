-- The steps of a search for a candidate: those of its calls, each of which passes a count list but the last, add up.
use Rattle.std.proofs.Common.{◌≡◌, ℕ, ◌+◌, ◌*◌, ◌≤◌, ◌⊎◌, Bool, true, false, cond, List, length, refl, sym, ap, ◌∙◌, subst, inl, inr, arith}
use Rattle.std.specs.Prelude.{Option, Some, None, not}
use Rattle.std.proofs.Math.Nat.{mul-le-mul_left}
use Rattle.mass_scaling.specs.declared.windows.Window.{Window}
use Rattle.mass_scaling.proofs.ScaledMasses.{are_scaled}
use Rattle.decompose.specs.CountLists.{follows, comes_after}
use Rattle.decompose.specs.Enumeration.{is_within}
use Rattle.decompose.specs.Masses.{AreMasses, base_of, mass_of}
use Rattle.decompose.specs.StepBounds.{HasNoScaledWindow, IsScaledWindowOf, most_atoms, most_steps, number_between}
use Rattle.decompose.proofs.CountListOrder.{after_back, follows_trans}
use Rattle.decompose.proofs.StepSums.{number_more, number_some}
use Rattle.candidates.specs.declared.search.Search.{Search}
use Rattle.candidates.specs.Grounds.{GroundValue, IsGround}
use Rattle.candidates.specs.PeakFormulas.{masses_of}
use Rattle.candidates.specs.Searches.{GoesOn, IsBounded, Takes}
use Rattle.candidates.proofs.AlphabetMasses.{are_masses, base_of-alphabet, count-masses}
use Rattle.candidates.proofs.SearchSteps.{SoFar}

-- ---- sums of steps: a call has at most k steps for each list that it passes, and k more

one_call : (k n a b c : ℕ) → 1 ≤ n → b ≡ a → c ≤ b + k * (n + 1) → c ≤ a + k * (2 * n)
one_call k n a b c some same h =
    let all : k * (n + 1) ≤ k * (2 * n) = mul-le-mul_left k (omega (arith, some)) in
    omega (arith, all, same, h)

more_calls : (k m n all a b c : ℕ) → 1 ≤ n → m + n ≤ all → b ≤ a + k * (2 * m) → c ≤ b + k * (n + 1)
    → c ≤ a + k * (2 * all)
more_calls k m n all a b c some sum before h =
    let most : k * (2 * m + (n + 1)) ≤ k * (2 * all) = mul-le-mul_left k (omega (arith, some, sum)) in
    omega (arith, most, before, h)

last_call : (k m n all a b c : ℕ) → m + n ≤ all → b ≤ a + k * (2 * m) → c ≤ b + k * (n + 1)
    → c ≤ a + k * (2 * all + 1)
last_call k m n all a b c sum before h =
    let most : k * (2 * m + (n + 1)) ≤ k * (2 * all + 1) = mul-le-mul_left k (omega (arith, sum)) in
    omega (arith, most, before, h)

only_call : (k n a b c : ℕ) → b ≡ a → c ≤ b + k * (n + 1) → c ≤ a + k * (2 * n + 1)
only_call k n a b c same h =
    let all : k * (n + 1) ≤ k * (2 * n + 1) = mul-le-mul_left k (omega arith) in
    omega (arith, all, same, h)

no_call : (k n a c : ℕ) → c ≤ a + k * (2 * n) → c ≤ a + k * (2 * n + 1)
no_call k n a c h =
    let all : k * (2 * n) ≤ k * (2 * n + 1) = mul-le-mul_left k (omega arith) in
    omega (arith, all, h)

-- ---- the steps so far

-- what one call takes
pub record CallSteps (old : Search) (upto : Option (List ℕ)) (before after : ℕ) : Type 0 where
  pub most : (scaled : Window) → IsScaledWindowOf old.decomps.masses old.decomps.window scaled
      → after ≤ before + most_steps old.decomps.masses scaled old.decomps.given upto
  pub none : HasNoScaledWindow old.decomps.masses old.decomps.window → after ≡ before
  pub pending : old.is_pending ≡ true → after ≡ before

-- the search has come to a list
pub record HasPassed (initial : Search) (list : List ℕ) (before after : ℕ) : Type 0 where
  pub later : follows initial.decomps.given list ≡ true
  pub most : (scaled : Window) → IsScaledWindowOf initial.decomps.masses initial.decomps.window scaled
      → after ≤ before + length initial.decomps.masses * (most_atoms initial.decomps.masses scaled + 1)
      * (2 * number_between initial.decomps.masses scaled initial.decomps.given (Some list))
  pub none : HasNoScaledWindow initial.decomps.masses initial.decomps.window → after ≡ before

-- it stands where it began, or it has come to a list
abbrev pub Walked : Search → Option (List ℕ) → ℕ → ℕ → Type 0
Walked initial given before after =
    ((given ≡ initial.decomps.given) × (after ≡ before))
    ⊎ ((list : List ℕ) × (given ≡ Some list) × HasPassed initial list before after)

-- the steps of a call, in the words of the beginning
module _ (initial old : Search) (upto : Option (List ℕ)) (before after : ℕ) (goes : GoesOn initial old)
    (call : CallSteps old upto before after) where
  call-most : (scaled : Window) → IsScaledWindowOf initial.decomps.masses initial.decomps.window scaled
      → after ≤ before + most_steps initial.decomps.masses scaled old.decomps.given upto
  call-most scaled is =
      subst (λ masses. after ≤ before + most_steps masses scaled old.decomps.given upto) goes.masses
      (call.most scaled (subst (λ masses. IsScaledWindowOf masses old.decomps.window scaled) (sym goes.masses)
      (subst (λ window. IsScaledWindowOf initial.decomps.masses window scaled) (sym goes.window) is)))

  call-none : HasNoScaledWindow initial.decomps.masses initial.decomps.window → after ≡ before
  call-none none =
      call.none (subst (λ masses. HasNoScaledWindow masses old.decomps.window) (sym goes.masses)
      (subst (HasNoScaledWindow initial.decomps.masses) (sym goes.window) none))

module _ (premises : GroundValue) (ground : IsGround premises) (initial old new : Search)
    (so_far : SoFar premises initial old) (before at after : ℕ) where
  masses_are : initial.decomps.masses ≡ masses_of premises.alphabet
  masses_are = sym so_far.goes.masses ∙ so_far.is_search.masses

  -- the list that is taken is one of those that the call passes
  passed-some : (scaled : Window) → IsScaledWindowOf initial.decomps.masses initial.decomps.window scaled
      → Takes old new true → old.is_pending ≡ false
      → 1 ≤ number_between initial.decomps.masses scaled old.decomps.given (Some new.counts)
  passed-some scaled is takes idle =
      let masses = initial.decomps.masses in
      let are : AreMasses masses = subst AreMasses (sym masses_are) (are_masses premises.alphabet ground.is_alphabet) in
      let light : base_of masses ≤ 400000000000000 =
      subst (λ m. base_of m ≤ 400000000000000) (sym masses_are) (base_of-alphabet premises.alphabet ground.is_alphabet) in
      let within : is_within initial.decomps.window (mass_of masses new.counts) ≡ true =
      ap (λ w. is_within w (mass_of masses new.counts)) (sym so_far.goes.window)
      ∙ ap (λ m. is_within old.decomps.window (mass_of m new.counts)) (sym so_far.goes.masses)
      ∙ takes.in_window idle refl in
      number_some masses initial.decomps.window scaled old.decomps.given new.counts are (are_scaled masses are light) is
      (takes.size ∙ so_far.is_search.size ∙ sym (count-masses premises.alphabet) ∙ ap length (sym masses_are)) within
      (takes.follows idle refl)

  -- one list more was taken
  pub walked-taken : Takes old new true → CallSteps old (Some new.counts) at after
      → Walked initial old.decomps.given before at → Walked initial new.decomps.given before after
  walked-taken takes call walked = cases old.is_pending refl walked
    where
      cases : (b : Bool) → old.is_pending ≡ b → Walked initial old.decomps.given before at
          → Walked initial new.decomps.given before after
      cases true e (inl here) = inl ((takes.kept e).1 ∙ here.0, call.pending e ∙ here.1)
      cases true e (inr (list, given, passed)) = inr (
        list,
        (takes.kept e).1 ∙ given,
        record {
          later = passed.later;
          most = λ scaled is. omega (arith, passed.most scaled is, call.pending e);
          none = λ none. call.pending e ∙ passed.none none;
        },
      )
      cases false e (inl here) = inr (
        new.counts,
        takes.given e refl,
        record {
          later = subst (λ g. follows g new.counts ≡ true) here.0 (takes.follows e refl);
          most = λ scaled is.
              let masses = initial.decomps.masses in
              one_call (length masses * (most_atoms masses scaled + 1))
              (number_between masses scaled initial.decomps.given (Some new.counts)) before at after
              (subst (λ g. 1 ≤ number_between masses scaled g (Some new.counts)) here.0 (passed-some scaled is takes e))
              here.1
              (subst (λ g. after ≤ at + most_steps masses scaled g (Some new.counts)) here.0
              (call-most initial old (Some new.counts) at after so_far.goes call scaled is));
          none = λ none. call-none initial old (Some new.counts) at after so_far.goes call none ∙ here.1;
        },
      )
      cases false e (inr (list, given, passed)) =
          let next : comes_after list new.counts ≡ true =
          subst (λ g. follows g new.counts ≡ true) given (takes.follows e refl) in
          inr (
            new.counts,
            takes.given e refl,
            record {
              later = follows_trans initial.decomps.given list new.counts passed.later next;
              most = λ scaled is.
                  let masses = initial.decomps.masses in
                  more_calls (length masses * (most_atoms masses scaled + 1))
                  (number_between masses scaled initial.decomps.given (Some list))
                  (number_between masses scaled (Some list) (Some new.counts))
                  (number_between masses scaled initial.decomps.given (Some new.counts)) before at after
                  (subst (λ g. 1 ≤ number_between masses scaled g (Some new.counts)) given (passed-some scaled is takes e))
                  (number_more masses scaled initial.decomps.given (Some new.counts) list passed.later
                  (ap not (after_back list new.counts next)))
                  (passed.most scaled is)
                  (subst (λ g. after ≤ at + most_steps masses scaled g (Some new.counts)) given
                  (call-most initial old (Some new.counts) at after so_far.goes call scaled is));
              none = λ none.
                  call-none initial old (Some new.counts) at after so_far.goes call none ∙ passed.none none;
            },
          )

  -- no list was left
  pub walked-ended : CallSteps old None at after → Walked initial old.decomps.given before at
      → IsBounded initial None before after
  walked-ended call (inl here) =
      record {
        most = λ scaled is.
            let masses = initial.decomps.masses in
            only_call (length masses * (most_atoms masses scaled + 1))
            (number_between masses scaled initial.decomps.given None) before at after here.1
            (subst (λ g. after ≤ at + most_steps masses scaled g None) here.0
            (call-most initial old None at after so_far.goes call scaled is));
        none = λ none. call-none initial old None at after so_far.goes call none ∙ here.1;
      }
  walked-ended call (inr (list, given, passed)) =
      record {
        most = λ scaled is.
            let masses = initial.decomps.masses in
            last_call (length masses * (most_atoms masses scaled + 1))
            (number_between masses scaled initial.decomps.given (Some list))
            (number_between masses scaled (Some list) None)
            (number_between masses scaled initial.decomps.given None) before at after
            (number_more masses scaled initial.decomps.given None list passed.later refl) (passed.most scaled is)
            (subst (λ g. after ≤ at + most_steps masses scaled g None) given
            (call-most initial old None at after so_far.goes call scaled is));
        none = λ none. call-none initial old None at after so_far.goes call none ∙ passed.none none;
      }

-- the list that the search has come to is the one that it finds
pub walked-found : (initial : Search) (given : Option (List ℕ)) (counts : List ℕ) (before after : ℕ)
    → given ≡ Some counts → Walked initial given before after → IsBounded initial (Some counts) before after
walked-found initial given counts before after of (inl here) =
    record { most = λ scaled is. omega (arith, here.1); none = λ _. here.1 }
walked-found initial given counts before after of (inr (list, same, passed)) =
    let is_list : Some list ≡ Some counts = sym same ∙ of in
    record {
      most = λ scaled is.
          let masses = initial.decomps.masses in
          no_call (length masses * (most_atoms masses scaled + 1))
          (number_between masses scaled initial.decomps.given (Some counts)) before after
          (subst (λ g. after ≤ before + length masses * (most_atoms masses scaled + 1)
          * (2 * number_between masses scaled initial.decomps.given g)) is_list (passed.most scaled is));
      none = passed.none;
    }

-- the clauses of a call on what it answers
pub call_steps : (old : Search) (counts : List ℕ) (taken answer : Bool) (before after : ℕ) → taken ≡ answer
    → ((scaled : Window) → IsScaledWindowOf old.decomps.masses old.decomps.window scaled
    → after ≤ before + most_steps old.decomps.masses scaled old.decomps.given (cond taken (Some counts) None))
    → (HasNoScaledWindow old.decomps.masses old.decomps.window → after ≡ before)
    → (old.is_pending ≡ true → after ≡ before)
    → CallSteps old (cond answer (Some counts) None) before after
call_steps old counts taken answer before after same most none pending =
    subst (λ b. CallSteps old (cond b (Some counts) None) before after) same
    (record { most = most; none = none; pending = pending })
