-- The claim that a cover makes fails no test.
use Rattle.std.proofs.Common.{◌≡◌, ℕ, zero, suc, ◌+◌, ◌-◌, ◌*◌, ◌/◌, ◌^◌, ◌<◌, ◌≤◌, Bool, true, false, ltb, leb, List}
use Rattle.std.proofs.Common.{[], ◌∷◌, map, length, take, get_or, sum, None, refl, ◌∙◌, ap, arith, All, ⊎_elim}
use Rattle.std.specs.Prelude.{◌&&◌, Contains, filter, find}
use Rattle.std.specs.List.{range_with_len}
use Rattle.std.proofs.Math.Nat.{div-mul-le_self, pow-le-pow_right, mul-le-mul_left}
use Rattle.std.proofs.lemmas.Bool.{cases_Bool, eq-eqb, le-leb, le-ltb, lt-ltb, lt-leb}
use Rattle.std.proofs.lemmas.List.{length-map, length-take-le, take_all}
use Rattle.std.proofs.lemmas.List.FromFn.{length-range_with_len, get_or-range_with_len}
use Rattle.std.proofs.lemmas.List.Elements.{All-head, All-tail, All-weaker}
use Rattle.std.proofs.lemmas.List.Sorted.{length_permutation, sorted_far}
use Rattle.sorted_lists.proofs.SortedListLaws.{IsPermutation-sorted_by, IsSortedBy-sorted_by}
use Rattle.sorted_lists.specs.SortedLists.{sorted_by}
use Rattle.multinomial_bounds.specs.Isotopologue.{Element, IsIsotopologue}
use Rattle.multinomial_bounds.proofs.EnclosureLemmas.{IsEnclosure-isotopologue}
use Rattle.isotopologue_sets.specs.Layers.{AreElements, hi_of, lo_total, layer, mode_of_each, mode_hi, threshold_at}
use Rattle.isotopologue_sets.specs.Layers.{reaching_threshold, has_too_many, last_threshold_for}
use Rattle.isotopologue_sets.specs.Coverage.{max_coverage}
use Rattle.isotopologue_sets.specs.Covers.{stands_before, ordered_layer, size_for, bound_for, cover_numbers}
use Rattle.isotopologue_sets.proofs.FewestLaws.{fewest-within, fewest-below, fewest-reaches}
use Rattle.isotopologue_sets.proofs.CoverOrder.{stands_before-IsStrictOrder}
use Rattle.isotopologue_sets.proofs.LayerLaws.{ordered_layer-IsIsotopologue, ordered_layer-above}
use Rattle.isotopologue_sets.proofs.LayerLaws.{ordered_layer-distinct, ordered_layer-cases, lo_total-ordered_layer}
use Rattle.isotopologue_sets.proofs.AllReach.{reaching_threshold-last, reaching_threshold-reaches}
use Rattle.isotopologue_sets.proofs.FirstThreshold.{last_threshold_for-halved}
use Rattle.isotopologue_sets.proofs.CoverMembers.{counts_are}
use Rattle.isotopologue_sets.proofs.CoverClaims.{cover-claims}
use Rattle.isotopologue_neighbours.specs.Closed.{greatest_above, greatest_total}
use Rattle.cover_claims.specs.Claims.{isotopologues_in, marked_in, member_at, is_member, is_misplaced, first_misplaced}
use Rattle.cover_claims.specs.Claims.{exits, is_left_out, first_left_out, claim_fault}
use Rattle.cover_claims.specs.CoverClaims.{with_mark, first_marked, claimed_by_cover, numbers_of_cover}
use Rattle.cover_claims.proofs.FindLemmas.{is_member-Decides}
use Rattle.cover_claims.proofs.ModeRow.{modes-IsIsotopologue}
use Rattle.cover_claims.proofs.OpenNeighbours.{exits-are}

-- where all fail, nothing is found
pub none-found : {X : Type 0} (p : X → Bool) (xs : List X) → All (λ x. p x ≡ false) xs → find p xs ≡ None
none-found p [] all = refl
none-found p (x ∷ xs) all =
    rw (All-head (λ y. p y ≡ false) x xs all) (none-found p xs (All-tail (λ y. p y ≡ false) x xs all))

-- where all pass, all are kept
all-kept : {X : Type 0} (p : X → Bool) (xs : List X) → All (λ x. p x ≡ true) xs → filter p xs ≡ xs
all-kept p [] all = refl
all-kept p (x ∷ xs) all =
    let rest : filter p xs ≡ xs = all-kept p xs (All-tail (λ y. p y ≡ true) x xs all) in
    rw (All-head (λ y. p y ≡ true) x xs all) (ap (λ ys. x ∷ ys) rest)

-- the isotopologues of members with marks, and the marked ones
counts-unmarked : (xs : List (List (List ℕ))) → isotopologues_in (map (with_mark false) xs) ≡ xs
counts-unmarked [] = refl
counts-unmarked (x ∷ xs) = ap (λ ys. x ∷ ys) (counts-unmarked xs)

counts-first_marked : (n : ℕ) (xs : List (List (List ℕ))) → isotopologues_in (first_marked n xs) ≡ xs
counts-first_marked zero xs = counts-unmarked xs
counts-first_marked (suc n) [] = refl
counts-first_marked (suc n) (x ∷ xs) = ap (λ ys. x ∷ ys) (counts-first_marked n xs)

none-marked : (xs : List (List (List ℕ))) → marked_in (map (with_mark false) xs) ≡ []
none-marked [] = refl
none-marked (x ∷ xs) = none-marked xs

marked-first_marked : (n : ℕ) (xs : List (List (List ℕ))) → marked_in (first_marked n xs) ≡ take n xs
marked-first_marked zero xs = none-marked xs
marked-first_marked (suc n) [] = refl
marked-first_marked (suc n) (x ∷ xs) = ap (λ ys. x ∷ ys) (marked-first_marked n xs)

module _ (es : List Element) (ok : AreElements es) (coverage : ℕ) (some : 1 ≤ coverage) (most : coverage ≤ max_coverage)
    (few : has_too_many es (last_threshold_for es coverage) ≡ false) where
  abbrev t : ℕ
  t = reaching_threshold es coverage

  abbrev members : List (List (List ℕ))
  members = ordered_layer es t

  -- 1. each member stands before the next one
  steps : (k : ℕ) → k + 1 < length members →
      stands_before es (member_at members k) (member_at members (k + 1)) ≡ true
  unfolding ordered_layer
  steps k within =
      let order = stands_before-IsStrictOrder es in
      let a : List (List ℕ) = member_at members k in
      let b : List (List ℕ) = member_at members (k + 1) in
      let back : stands_before es b a ≡ false =
      sorted_far (stands_before es) order.weak members (IsSortedBy-sorted_by order (layer es t)) k (k + 1) [] (omega arith)
      within in
      ⊎_elim
      (λ (before : stands_before es a b ≡ true). before)
      (λ (tied : stands_before es a b ≡ false).
      absurd (ordered_layer-distinct es t k (k + 1) [] (omega arith) within (order.one a b tied back)))
      (cases_Bool (stands_before es a b))

  in_order : first_misplaced es members ≡ None
  unfolding first_misplaced
  in_order =
      none-found (is_misplaced es members) (range_with_len 1 (length members - 1))
      (λ k d within.
      let inside : k < length members - 1 = rw length-range_with_len at within in
      let is : get_or (range_with_len 1 (length members - 1)) k d ≡ k + 1 =
      get_or-range_with_len 1 (length members - 1) k d inside ∙ omega arith in
      let back : k + 1 - 1 ≡ k = omega arith in
      rw (is, back, steps k (omega arith)) refl)

  -- 2. the isotopologue of all modes is above the threshold
  mode-above : t < mode_hi es
  mode-above =
      let halved = last_threshold_for-halved es ok coverage most in
      let is : t ≡ threshold_at es halved.0 =
      reaching_threshold-last es ok coverage most few ∙ halved.1 in
      let hi : ℕ = mode_hi es in
      let positive : 1 ≤ mode_hi es =
      (IsEnclosure-isotopologue es (mode_of_each es) ok.weights (modes-IsIsotopologue es ok.weights)).positive in
      let part : hi / 2 ^ (halved.0 + 1) * 2 ^ (halved.0 + 1) ≤ hi = div-mul-le_self hi (2 ^ (halved.0 + 1)) in
      let further : 1 ≤ halved.0 + 1 = omega arith in
      let two : 1 ≤ 2 = omega arith in
      let power : 2 ^ 1 ≤ 2 ^ (halved.0 + 1) = pow-le-pow_right {n = 2} two further in
      let twice : hi / 2 ^ (halved.0 + 1) * 2 ^ 1 ≤ hi / 2 ^ (halved.0 + 1) * 2 ^ (halved.0 + 1) =
      mul-le-mul_left (hi / 2 ^ (halved.0 + 1)) power in
      omega arith

  has_mode : is_member members (mode_of_each es) ≡ true
  has_mode =
      (is_member-Decides members (mode_of_each es)).1
      (⊎_elim
      (λ (member : Contains members (mode_of_each es)). member)
      (λ (low : hi_of es (mode_of_each es) ≤ t). absurd (omega (arith, mode-above)))
      (ordered_layer-cases es t (mode_of_each es) (modes-IsIsotopologue es ok.weights)))

  -- 3. no isotopologue above the threshold was left out
  not-left_out : (i : List (List ℕ)) → IsIsotopologue es i → is_left_out es t members i ≡ false
  not-left_out i is =
      ⊎_elim
      (λ (member : Contains members i).
      let has : is_member members i ≡ true = (is_member-Decides members i).1 member in
      rw has (and_not (ltb t (hi_of es i))))
      (λ (low : hi_of es i ≤ t). rw (le-ltb t (hi_of es i) low) refl)
      (ordered_layer-cases es t i is)
    where
      and_not : (b : Bool) → (b && false) ≡ false
      and_not true = refl
      and_not false = refl

  closed : first_left_out es t members ≡ None
  unfolding first_left_out
  closed =
      none-found (λ exit. is_left_out es t members exit.1) (exits members)
      (All-weaker (λ (exit : ℕ × List (List ℕ)). (exit.0 ≤ length members) × IsIsotopologue es exit.1)
      (λ exit. is_left_out es t members exit.1 ≡ false) (λ exit is. not-left_out exit.1 is.1) (exits members)
      (exits-are es members (ordered_layer-IsIsotopologue es t)))

  -- 4. and 5. the size
  abbrev size : ℕ
  size = size_for es coverage members

  size-within : size ≤ length members
  unfolding size_for
  size-within = fewest-within (λ n. lo_total es (take n members)) coverage (length members)

  size-enough : coverage ≤ lo_total es (take size members)
  unfolding size_for
  size-enough =
      let whole : take (length members) members ≡ members = take_all (length members) members (omega arith) in
      let all : coverage ≤ lo_total es members =
      rw (lo_total-ordered_layer es t) (reaching_threshold-reaches es ok coverage most few) in
      fewest-reaches (λ n. lo_total es (take n members)) coverage (length members) (rw whole all)

  -- 6. the bound
  abbrev bound : ℕ
  bound = bound_for es coverage members

  abbrev greatest : List ℕ
  greatest = sorted_by (λ a b. ltb b a) (map (hi_of es) members)

  bound-within : bound ≤ length members
  unfolding bound_for
  bound-within = fewest-within (λ n. sum (take n greatest)) coverage (length members)

  bound-positive : 1 ≤ bound
  unfolding cover_numbers
  bound-positive = (cover-claims es ok coverage some most few).bound_from

  bound-short : sum (take (bound - 1) greatest) < coverage
  unfolding bound_for
  bound-short = fewest-below (λ n. sum (take n greatest)) coverage (length members) (bound - 1) (omega (arith, bound-positive))

  greatest-is : greatest_above es t members ≡ greatest
  unfolding greatest_above
  greatest-is =
      ap (λ (xs : List (List (List ℕ))). sorted_by (λ a b. ltb b a) (map (hi_of es) xs))
      (all-kept (λ m. ltb t (hi_of es m)) members
      (All-weaker (λ i. t < hi_of es i) (λ i. ltb t (hi_of es i) ≡ true) (λ i above. lt-ltb t (hi_of es i) above) members
      (ordered_layer-above es t)))

  greatest-long : length greatest ≡ length members
  greatest-long =
      length_permutation (map (hi_of es) members) greatest
      (IsPermutation-sorted_by (λ a b. ltb b a) (map (hi_of es) members))
      ∙ length-map members (hi_of es)

  total-short : greatest_total es t members (bound - 1) < coverage
  unfolding greatest_total
  total-short =
      let none : bound - 1 - length greatest ≡ 0 = omega (arith, bound-within, greatest-long) in
      rw (greatest-is, none) (omega (arith, bound-short))

  no-bound_fault : (ltb 0 bound && leb coverage (greatest_total es t members (bound - 1))) ≡ false
  no-bound_fault = rw (lt-leb coverage (greatest_total es t members (bound - 1)) total-short) (and_not (ltb 0 bound))
    where
      and_not : (b : Bool) → (b && false) ≡ false
      and_not true = refl
      and_not false = refl

  -- The claim that the cover makes fails no test.
  pub cover-accepted :
      claim_fault (claimed_by_cover es (cover_numbers es coverage)) (numbers_of_cover coverage (cover_numbers es coverage))
      ≡ None
  unfolding claim_fault cover_numbers
  cover-accepted =
      rw (
        counts_are es members,
        counts-first_marked size members,
        marked-first_marked size members,
        in_order,
        has_mode,
        closed,
        length-take-le size members size-within,
        eq-eqb size size refl,
        le-leb coverage (lo_total es (take size members)) size-enough,
        no-bound_fault,
      ) refl
