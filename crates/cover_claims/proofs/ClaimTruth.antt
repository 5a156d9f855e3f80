-- A claim that fails no test is true.
use Rattle.std.proofs.Common.{◌≡◌, ℕ, ◌-◌, ◌<◌, ◌≤◌, Bool, true, false, cond, ltb, leb, List, [], ◌∷◌, map, length}
use Rattle.std.proofs.Common.{get_or, Some, None, refl, ◌∙◌, arith, All, ⊎_elim, inl, inr}
use Rattle.std.specs.Prelude.{◌⊎◌, ◌&&◌, Contains, Option, filter}
use Rattle.std.specs.List.{range_with_len}
use Rattle.std.specs.Option.{option_map}
use Rattle.std.proofs.lemmas.Bool.{cases_lt, eqb-true, leb-true, leb-false, lt-ltb}
use Rattle.std.proofs.lemmas.List.{length-map, get_or-map, get_or_default}
use Rattle.std.proofs.lemmas.List.FromFn.{length-range_with_len, get_or-range_with_len}
use Rattle.std.proofs.lemmas.List.Elements.{All-contains, All-filter, All-map, Contains-get_or}
use Rattle.multinomial_bounds.specs.Isotopologue.{Element, IsIsotopologue}
use Rattle.multinomial_bounds.proofs.CompositionLemmas.{Contains-map, Contains-flat_map}
use Rattle.isotopologue_sets.specs.Layers.{AreElements, hi_of, lo_total, mode_of_each}
use Rattle.isotopologue_sets.specs.Coverage.{IsSet, Bound}
use Rattle.isotopologue_neighbours.specs.Moves.{neighbours_of}
use Rattle.isotopologue_neighbours.specs.Closed.{IsClosedAbove, greatest_total}
use Rattle.isotopologue_neighbours.proofs.ClosedBounds.{closed-Bound, reaches-by_lo}
use Rattle.cover_claims.specs.declared.fault.ClaimFault.{ClaimFault}
use Rattle.cover_claims.specs.declared.claim.ClaimNumbers.{ClaimNumbers}
use Rattle.cover_claims.specs.Claims.{Claimed, isotopologues_in, marked_in, member_at, is_member, exits, is_left_out, first_left_out, first_fault, claim_fault}
use Rattle.cover_claims.specs.ClaimMeaning.{IsTrueClaim}
use Rattle.cover_claims.proofs.FindLemmas.{find-none, is_member-Decides, some≢none}
use Rattle.cover_claims.proofs.MemberOrder.{marked-distinct, not-false}

-- answers that are none
none-of-map : {X Y : Type 0} (f : X → Y) (o : Option X) → option_map f o ≡ None → o ≡ None
none-of-map f None none = refl
none-of-map f (Some x) none = absurd (some≢none (f x) none)

passes : {X : Type 0} (b : Bool) (x : X) → ◌≡◌ {A = Option X} (cond b None (Some x)) None → b ≡ true
passes true x none = refl
passes false x none = absurd (some≢none x none)

fails : {X : Type 0} (b : Bool) (x : X) → ◌≡◌ {A = Option X} (cond b (Some x) None) None → b ≡ false
fails true x none = absurd (some≢none x none)
fails false x none = refl

none-first : (fault : Option ClaimFault) (others : List (Option ClaimFault)) → first_fault (fault ∷ others) ≡ None →
    (fault ≡ None) × (first_fault others ≡ None)
none-first None others none = (refl, none)
none-first (Some fault) others none = absurd (some≢none fault none)

all-of-map : {X Y : Type 0} (P : Y → Type 0) (f : X → Y) (xs : List X) → All P (map f xs) → All (λ x. P (f x)) xs
all-of-map P f xs all k d within =
    let inside : k < length (map f xs) = rw (length-map xs f) within in
    rw (← get_or-map f xs k d (f d) within) (all k (f d) inside)

-- an isotopologue that wasn't left out
not_left_out : (es : List Element) (t : ℕ) (members : List (List (List ℕ))) (i : List (List ℕ)) →
    is_left_out es t members i ≡ false → Contains members i ⊎ (hi_of es i ≤ t)
not_left_out es t members i not_out =
    ⊎_elim
    (λ (over : t < hi_of es i).
    let above : ltb t (hi_of es i) ≡ true = lt-ltb t (hi_of es i) over in
    inl ((is_member-Decides members i).0 (not-false (is_member members i) (rw above at not_out))))
    (λ (low : hi_of es i ≤ t). inr low)
    (cases_lt t (hi_of es i))

module _ (es : List Element) (t : ℕ) (members : List (List (List ℕ))) (none : first_left_out es t members ≡ None) where
  abbrev exits_at : ℕ → List (ℕ × List (List ℕ))
  exits_at place = map (λ i. (place, i)) (neighbours_of (member_at members place))

  exit_found : (place : ℕ) → place < length members → (i : List (List ℕ)) →
      Contains (neighbours_of (member_at members place)) i → Contains (exits members) (place, i)
  exit_found place within i neighbour =
      let inside : place < length (range_with_len 0 (length members)) = rw length-range_with_len within in
      let is : get_or (range_with_len 0 (length members)) place place ≡ place =
      get_or-range_with_len 0 (length members) place place within ∙ omega arith in
      Contains-flat_map exits_at (range_with_len 0 (length members)) place (place, i) place inside is
      (Contains-map (λ j. (place, j)) (neighbours_of (member_at members place)) i neighbour)

  neighbours_in : (place : ℕ) → place < length members →
      All (λ i. Contains members i ⊎ (hi_of es i ≤ t)) (neighbours_of (member_at members place))
  unfolding first_left_out
  neighbours_in place within j d inside =
      let i : List (List ℕ) = get_or (neighbours_of (member_at members place)) j d in
      not_left_out es t members i
      (All-contains (λ exit. is_left_out es t members exit.1 ≡ false) (exits members) (place, i)
      (find-none (λ exit. is_left_out es t members exit.1) (exits members) none)
      (exit_found place within i
      (Contains-get_or (neighbours_of (member_at members place)) j d inside)))

  closed : is_member members (mode_of_each es) ≡ true → IsClosedAbove es t members
  closed mode = record {
    mode = (is_member-Decides members (mode_of_each es)).0 mode;
    neighbours = λ k d within.
        rw (get_or_default members k d [] within) (neighbours_in k within);
  }

bound_holds : (es : List Element) → AreElements es → (t : ℕ) (members : List (List (List ℕ))) → IsClosedAbove es t members →
    All (IsIsotopologue es) members → (coverage bound : ℕ) →
    (ltb 0 bound && leb coverage (greatest_total es t members (bound - 1))) ≡ false → Bound es bound coverage
bound_holds es ok t members is_closed are coverage bound test =
    ⊎_elim
    (λ (some : 0 < bound).
    let positive : ltb 0 bound ≡ true = lt-ltb 0 bound some in
    let short : greatest_total es t members (bound - 1) < coverage =
    leb-false coverage (greatest_total es t members (bound - 1)) (rw positive at test) in
    closed-Bound es ok t members is_closed are coverage bound short)
    (λ (none : bound ≤ 0) set few reached. absurd (omega arith))
    (cases_lt 0 bound)

-- A claim of isotopologues that fails no test is true.
pub claim-true : (claimed : Claimed) (claim : ClaimNumbers) → AreElements claimed.elements →
    All (IsIsotopologue claimed.elements) (isotopologues_in claimed.members) →
    claim_fault claimed claim ≡ None → IsTrueClaim claimed claim
unfolding claim_fault
claim-true claimed claim ok are none =
    let es : List Element = claimed.elements in
    let members : List (List (List ℕ)) = isotopologues_in claimed.members in
    let marked : List (List (List ℕ)) = marked_in claimed.members in
    let order = none-first _ _ none in
    let mode = none-first _ _ order.1 in
    let boundary = none-first _ _ mode.1 in
    let size = none-first _ _ boundary.1 in
    let cover = none-first _ _ size.1 in
    let bound = none-first _ _ cover.1 in
    let is_closed : IsClosedAbove es claim.threshold members =
    closed es claim.threshold members (none-of-map _ _ boundary.0) (passes _ _ mode.0) in
    let enough : claim.coverage ≤ lo_total es marked = leb-true claim.coverage (lo_total es marked) (passes _ _ cover.0) in
    let set : IsSet es marked =
    record {
      isotopologues =
          All-map (IsIsotopologue es) (λ m. m.counts) (filter (λ m. m.marked) claimed.members)
          (All-filter (λ m. m.marked) (λ m. IsIsotopologue es m.counts) claimed.members
          (all-of-map (IsIsotopologue es) (λ m. m.counts) claimed.members are));
      distinct = marked-distinct es claimed.members (none-of-map _ _ order.0);
    } in
    record {
      isotopologues = are;
      reached = reaches-by_lo es ok marked set claim.coverage enough;
      size_is = eqb-true (length marked) claim.size (passes _ _ size.0);
      least = bound_holds es ok claim.threshold members is_closed are claim.coverage claim.bound (fails _ _ bound.0);
    }
