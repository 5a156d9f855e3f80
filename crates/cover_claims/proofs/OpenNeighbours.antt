-- The isotopologue that an open boundary names is one of the elements.
use Rattle.std.proofs.Common.{◌≡◌, ℕ, Bool, true, false, cond, List, [], ◌∷◌, Some, None, refl, sym, ap, arith, All}
use Rattle.std.proofs.Common.{length, map, subst, eqb, ltb, leb, ◌-◌, ◌+◌, ◌≤◌, zero, suc}
use Rattle.std.specs.Prelude.{Option, ◌&&◌, find, unwrap_or}
use Rattle.std.specs.List.{concat, range_with_len}
use Rattle.std.specs.Option.{option_map}
use Rattle.std.proofs.lemmas.List.{length-map}
use Rattle.std.proofs.lemmas.List.Elements.{All-head, All-tail, All-map, All-weaker, All-nil, All-cons}
use Rattle.multinomial_bounds.specs.Isotopologue.{Element, IsIsotopologue}
use Rattle.multinomial_bounds.proofs.CompositionLemmas.{All-flat_map, All-range}
use Rattle.isotopologue_sets.specs.Layers.{hi_of, lo_total, mode_of_each}
use Rattle.isotopologue_neighbours.specs.Moves.{neighbours_of}
use Rattle.isotopologue_neighbours.specs.Closed.{greatest_total}
use Rattle.isotopologue_neighbours.proofs.MoveLemmas.{neighbours_of-IsIsotopologue}
use Rattle.cover_claims.specs.declared.claim.ClaimNumbers.{ClaimNumbers}
use Rattle.cover_claims.specs.declared.fault.ClaimFault.{ClaimFault}
use Rattle.cover_claims.specs.declared.fault.ClaimFault.TheVariants as fault
use Rattle.cover_claims.specs.Claims.{Claimed, isotopologues_in, marked_in, member_at, is_member, is_left_out, exits}
use Rattle.cover_claims.specs.Claims.{first_left_out, is_misplaced, first_misplaced, order_fault, mode_fault}
use Rattle.cover_claims.specs.Claims.{boundary_fault, size_fault, cover_fault, bound_fault, first_fault, claim_fault}
use Rattle.cover_claims.specs.FaultNames.{NamesIsotopologue, IfNames}
use Rattle.cover_claims.proofs.FindLemmas.{some≢none}

range-below : (a n b : ℕ) → a + n ≤ b → All (λ p. p ≤ b) (range_with_len a n)
range-below a zero b within = All-nil (λ p. p ≤ b)
range-below a (suc n) b within =
    All-cons (λ p. p ≤ b) a (range_with_len (a + 1) n) (omega arith) (range-below (a + 1) n b (omega arith))

places-within : (n : ℕ) → All (λ p. p ≤ n) (range_with_len 1 (n - 1))
places-within zero = All-nil (λ p. p ≤ zero)
places-within (suc n) = range-below 1 (suc n - 1) (suc n) (omega arith)

first-names : (es : List Element) (n : ℕ) (o : Option ClaimFault) (others : List (Option ClaimFault)) → IfNames es n o →
    IfNames es n (first_fault others) → IfNames es n (first_fault (o ∷ others))
first-names es n None others here rest = rest
first-names es n (Some f) others here rest = here

same_some : {X : Type 0} (x y : X) → ◌≡◌ {A = Option X} (Some x) (Some y) → x ≡ y
same_some x y e = ap (λ o. unwrap_or o x) e

found-holds : {X : Type 0} (P : X → Type 0) (p : X → Bool) (xs : List X) → All P xs → (x : X) → find p xs ≡ Some x → P x
found-holds P p [] all x found = absurd (some≢none x (sym found))
found-holds {X} P p (y ∷ xs) all x found =
    let Goal : Bool → Type 0 = λ b. cond b (Some y) (find p xs) ≡ Some x → P x in
    (elim (p y) as Goal [
      | true ↦ λ here. subst P (same_some y x here) (All-head P y xs all)
      | false ↦ λ rest. found-holds P p xs (All-tail P y xs all) x rest
    ]) found

module _ (es : List Element) (members : List (List (List ℕ))) (all : All (IsIsotopologue es) members) where
  pub exits-are : All (λ (exit : ℕ × List (List ℕ)). (exit.0 ≤ length members) × IsIsotopologue es exit.1) (exits members)
  exits-are =
      All-flat_map (λ (exit : ℕ × List (List ℕ)). (exit.0 ≤ length members) × IsIsotopologue es exit.1)
      (λ place. map (λ i. (place, i)) (neighbours_of (member_at members place))) (range_with_len 0 (length members))
      (All-range
      (λ place. All (λ (exit : ℕ × List (List ℕ)). (exit.0 ≤ length members) × IsIsotopologue es exit.1)
      (map (λ i. (place, i)) (neighbours_of (member_at members place))))
      (length members)
      (λ place within.
      All-map (λ (exit : ℕ × List (List ℕ)). (exit.0 ≤ length members) × IsIsotopologue es exit.1) (λ i. (place, i))
      (neighbours_of (member_at members place))
      (All-weaker (IsIsotopologue es) (λ i. (place ≤ length members) × IsIsotopologue es i)
      (λ i is. (omega arith, is)) (neighbours_of (member_at members place))
      (neighbours_of-IsIsotopologue es (member_at members place) (all place [] within)))))

  boundary-names : (t : ℕ) → IfNames es (length members) (boundary_fault es t members)
  unfolding first_left_out
  boundary-names t =
      cases (find (λ (exit : ℕ × List (List ℕ)). is_left_out es t members exit.1) (exits members)) refl
    where
      cases : (o : Option (ℕ × List (List ℕ))) →
          find (λ (exit : ℕ × List (List ℕ)). is_left_out es t members exit.1) (exits members) ≡ o →
          IfNames es (length members)
          (option_map (λ (exit : ℕ × List (List ℕ)). fault.OpenBoundary exit.0 (concat exit.1) (hi_of es exit.1)) o)
      cases None is = tt
      cases (Some exit) is =
          let both =
          found-holds (λ (e : ℕ × List (List ℕ)). (e.0 ≤ length members) × IsIsotopologue es e.1)
          (λ (e : ℕ × List (List ℕ)). is_left_out es t members e.1) (exits members) exits-are exit is in
          (both.0, (exit.1, both.1, refl))

  order-names : IfNames es (length members) (order_fault es members)
  unfolding first_misplaced
  order-names = cases (find (is_misplaced es members) (range_with_len 1 (length members - 1))) refl
    where
      cases : (o : Option ℕ) → find (is_misplaced es members) (range_with_len 1 (length members - 1)) ≡ o →
          IfNames es (length members) (option_map fault.OutOfOrder o)
      cases None is = tt
      cases (Some place) is =
          found-holds (λ p. p ≤ length members) (is_misplaced es members) (range_with_len 1 (length members - 1))
          (places-within (length members)) place is

other-names : (es : List Element) (n : ℕ) (b : Bool) (f : ClaimFault) → NamesIsotopologue es n f →
    IfNames es n (cond b None (Some f))
other-names es n true f names = tt
other-names es n false f names = names

last-names : (es : List Element) (n : ℕ) (b : Bool) (f : ClaimFault) → NamesIsotopologue es n f →
    IfNames es n (cond b (Some f) None)
last-names es n true f names = names
last-names es n false f names = tt

six-names : (es : List Element) (n : ℕ) (a b c d e f : Option ClaimFault) → IfNames es n a → IfNames es n b → IfNames es n c →
    IfNames es n d → IfNames es n e → IfNames es n f → IfNames es n (first_fault (a ∷ b ∷ c ∷ d ∷ e ∷ f ∷ []))
six-names es n a b c d e f na nb nc nd ne nf =
    first-names es n a (b ∷ c ∷ d ∷ e ∷ f ∷ []) na
    (first-names es n b (c ∷ d ∷ e ∷ f ∷ []) nb
    (first-names es n c (d ∷ e ∷ f ∷ []) nc
    (first-names es n d (e ∷ f ∷ []) nd
    (first-names es n e (f ∷ []) ne (first-names es n f [] nf tt)))))

-- A neighbour that was left out is an isotopologue of the elements.
pub fault-names : (claimed : Claimed) (claim : ClaimNumbers) →
    All (IsIsotopologue claimed.elements) (isotopologues_in claimed.members) →
    IfNames claimed.elements (length claimed.members) (claim_fault claimed claim)
unfolding claim_fault
fault-names claimed claim all =
    let es : List Element = claimed.elements in
    let members : List (List (List ℕ)) = isotopologues_in claimed.members in
    let marked : List (List (List ℕ)) = marked_in claimed.members in
    let total : ℕ = greatest_total es claim.threshold members (claim.bound - 1) in
    let long : length members ≡ length claimed.members = length-map claimed.members (λ m. m.counts) in
    rw (← long)
    (six-names es (length members) (order_fault es members) (mode_fault es members) (boundary_fault es claim.threshold members)
    (size_fault claim.size marked) (cover_fault es claim.coverage marked) (bound_fault es claim members)
    (order-names es members all)
    (other-names es (length members) (is_member members (mode_of_each es)) fault.ModeAbsent tt)
    (boundary-names es members all claim.threshold)
    (other-names es (length members) (eqb (length marked) claim.size) (fault.SizeDiffers (length marked)) tt)
    (other-names es (length members) (leb claim.coverage (lo_total es marked)) (fault.CoverShort (lo_total es marked)) tt)
    (last-names es (length members) (ltb 0 claim.bound && leb claim.coverage total) (fault.BoundTooHigh total) tt))
