-- What layers answer, from what they keep.
use Rattle.std.proofs.Common.{◌≡◌, ◌≢◌, ℕ, ◌+◌, ◌*◌, ◌<◌, ◌≤◌, true, false, ltb, eqb, List, Option, Some, None, Result, Ok, Err, refl, sym, ◌∙◌, ap, arith, ⊎_elim}
use Rattle.std.proofs.lemmas.Bool.{cases_lt, lt-ltb, le-ltb, eq-eqb, ne_eqb}
use Rattle.multinomial_bounds.specs.Isotopologue.{Element}
use Rattle.reader_answers.specs.Answers.{Gives, GivesAs}
use Rattle.layered_envelope.specs.declared.fault.LayerFault.{LayerFault}
use Rattle.layered_envelope.specs.declared.fault.LayerFault.TheVariants.{TooMany, Memory}
use Rattle.layered_envelope.specs.declared.layer_end.LayerEnd.{LayerEnd}
use Rattle.layered_envelope.specs.declared.layer_end.TheConstants.{MAX_MEMBERS}
use Rattle.sub_isotopologues.specs.Listings.{Listing}
use Rattle.layered_envelope.specs.LayerLists.{elements_of, kinds_of}
use Rattle.layered_envelope.proofs.LoweredLists.{kinds-elements}
use Rattle.layered_envelope.specs.Layerings.{Layering, last_threshold, next_threshold, are_all_given, end_within_limit}
use Rattle.layered_envelope.specs.Layerings.{some_end, next_end, is_memory, most_steps, most_end_steps}

module _ (l : Layering) where
  pub all_given : 0 < l.given → last_threshold l ≡ 0 → next_end l ≡ Ok None
  all_given some last =
      let given : ltb 0 l.given ≡ true = lt-ltb 0 l.given some in
      let zero_is : eqb (last_threshold l) 0 ≡ true = eq-eqb (last_threshold l) 0 last in
      rw (given, zero_is) refl

  pub not_all_given : (0 < l.given → last_threshold l ≢ 0) → are_all_given l ≡ false
  not_all_given more =
      ⊎_elim
      (λ (h : 0 < l.given). rw (lt-ltb 0 l.given h, ne_eqb (last_threshold l) 0 (more h)) refl)
      (λ (h : l.given ≤ 0). rw (le-ltb 0 l.given h) refl)
      (cases_lt 0 l.given)

  pub end_given : (end : LayerEnd) → are_all_given l ≡ false → end_within_limit l.elements (next_threshold l) ≡ Ok end →
      next_end l ≡ Ok (Some end)
  end_given end more is = rw more (ap some_end is)

  pub fault_given : (fault : LayerFault) → are_all_given l ≡ false →
      Gives {A = LayerEnd} is_memory (Err fault) (end_within_limit l.elements (next_threshold l)) →
      Gives {A = Option LayerEnd} is_memory (Err fault) (next_end l)
  fault_given Memory more gives = tt
  fault_given (TooMany t) more gives = rw more (ap some_end gives)

-- a fault is the same where a value would be seen through a view
pub later_fault : {A : Type 0} (view : A → LayerEnd) (fault : LayerFault) (expected : Result LayerEnd LayerFault) →
    GivesAs (λ (x : LayerEnd). x) is_memory (Err fault) expected → GivesAs view is_memory (Err fault) expected
later_fault view Memory expected gives = tt
later_fault view (TooMany t) expected gives = gives

pub steps_within : (q members steps old : ℕ) → steps ≤ old + 2 * q * members → steps ≤ old + most_steps q members
steps_within q members steps old within =
    ⊎_elim
    (λ (h : 0 < q).
    let some : eqb q 0 ≡ false = ne_eqb q 0 (λ e. omega arith) in
    rw some (omega (arith, within)))
    (λ (h : q ≤ 0).
    let none : q ≡ 0 = omega arith in
    let nothing : 2 * q * members ≡ 0 = rw none (omega arith) in
    rw (eq-eqb q 0 none) (omega arith))
    (cases_lt 0 q)

pub fault_steps_within : (q steps old : ℕ) (fault : LayerFault) → steps ≤ old + 2 * q * (MAX_MEMBERS + 1) →
    (fault ≡ Memory → steps ≡ old) →
    steps ≤ old + most_end_steps q (Err fault)
fault_steps_within q steps old Memory limit none = omega (arith, none refl)
fault_steps_within q steps old (TooMany t) limit none = steps_within q (MAX_MEMBERS + 1) steps old limit

abbrev pub layering : List Element → ℕ → Layering
layering elements given = record { elements = elements; given = given }

-- the layers seen, where lists of the same elements were written back
pub seen_again : (old new written : List Listing) (given given' : ℕ) (seen : Layering) → written ≡ new →
    kinds_of new ≡ kinds_of old →
    layering (elements_of old) given ≡ seen → given' ≡ given →
    layering (elements_of written) given' ≡ layering seen.elements given
seen_again old new written given given' seen is kinds view same =
    ap (λ ls. layering (elements_of ls) given') is
    ∙ ap (λ es. layering es given') (kinds-elements new old kinds ∙ ap (λ s. s.elements) view)
    ∙ ap (λ (n : ℕ). layering seen.elements n) same

pub seen_given : (es : List Element) (given : ℕ) (seen : Layering) → layering es given ≡ seen → seen.given ≡ given
seen_given es given seen view = sym (ap (λ s. s.given) view)
