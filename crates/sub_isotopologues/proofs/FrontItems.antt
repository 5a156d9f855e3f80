-- The items above a number stand in front of those that are above a lower one only.
use Rattle.std.proofs.Common.{◌≡◌, ℕ, ◌-◌, ◌<◌, ◌≤◌, Bool, true, false, not, List, [], ◌∷◌, ◌++◌, length, map, take}
use Rattle.std.proofs.Common.{get_or, ltb, refl, sym, ◌∙◌, ap, arith, All, inl, inr, length-append}
use Rattle.std.specs.Prelude.{filter}
use Rattle.std.specs.List.Sorted.{IsPermutation, IsPartitionedBy, IsPartitionPoint}
use Rattle.std.proofs.lemmas.Bool.{cases_Bool, cases_lt, not-true, lt-ltb, le-ltb, ltb-true, ltb-false, false≢true}
use Rattle.std.proofs.lemmas.List.{map-append, take_at, get_or_append_left, get_or-append_right}
use Rattle.std.proofs.lemmas.List.Elements.{All-weaker, All-map, filter_passes}
use Rattle.std.proofs.lemmas.List.Sorted.{All-permutation, IsPermutation-append, IsPermutation-trans}
use Rattle.std.proofs.lemmas.List.Sorted.{IsPermutation-filter_both}
use Rattle.sorted_lists.specs.SortedLists.{sorted_by}
use Rattle.sorted_lists.proofs.SortedListLaws.{IsPermutation-sorted_by, IsSortedBy-sorted_by, sorted_by-only}
use Rattle.multinomial_bounds.specs.Bounds.{ceiling_of}
use Rattle.multinomial_bounds.specs.Path.{bound_of}
use Rattle.multinomial_bounds.specs.Compositions.{compositions}
use Rattle.sub_isotopologues.specs.SubIsotopologues.{SubIsotopologue, sub_isotopologue_of, stands_before}
use Rattle.sub_isotopologues.specs.Children.{counts_over}
use Rattle.sub_isotopologues.specs.Growth.{items_over}
use Rattle.sub_isotopologues.proofs.CountsOver.{over-above}
use Rattle.sub_isotopologues.proofs.ItemOrder.{stands_before-IsStrictOrder, sorted-append}

-- a filter that passes less keeps the same where the other went first
filter_narrower : {X : Type 0} (p q : X → Bool) (xs : List X) → ((x : X) → q x ≡ true → p x ≡ true) →
    filter q (filter p xs) ≡ filter q xs
filter_narrower p q [] narrower = refl
filter_narrower p q (x ∷ xs) narrower =
    elim (cases_Bool (p x)) [
      | inl t ↦ elim (cases_Bool (q x))
          [ inl u ↦ rw (t, u, filter_narrower p q xs narrower) refl | inr u ↦ rw (t, u) (filter_narrower p q xs narrower) ]
      | inr t ↦ elim (cases_Bool (q x))
          [ inl u ↦ absurd (false≢true (sym t ∙ narrower x u)) | inr u ↦ rw (t, u) (filter_narrower p q xs narrower) ]
    ]

-- what passes a test stands in front of what doesn't
module _ {X : Type 0} (p : X → Bool) (front rest : List X) (high : All (λ x. p x ≡ true) front)
    (low : All (λ x. p x ≡ false) rest) where
  fails-behind : (j : ℕ) (d : X) → length front ≤ j → j < length (front ++ rest) → p (get_or (front ++ rest) j d) ≡ false
  fails-behind j d behind within =
      ap p (get_or-append_right front rest (length front) j d refl behind)
      ∙ low (j - length front) d (omega (arith, length-append front rest))

  passes-before : (i : ℕ) (d : X) → i < length front → p (get_or (front ++ rest) i d) ≡ true
  passes-before i d before = ap p (get_or_append_left front rest d i before) ∙ high i d before

  pub front-parted : IsPartitionedBy p (front ++ rest)
  front-parted i j d le within passes =
      elim (cases_lt i (length front)) [
        | inl before ↦ passes-before i d before
        | inr behind ↦ absurd (false≢true (sym (fails-behind j d (omega arith) within) ∙ passes))
      ]

  pub front-point : (k : ℕ) (d : X) → k ≤ length (front ++ rest) →
      IsPartitionPoint (λ y. p y ≡ true) (λ y. p y ≡ false) (front ++ rest) k → take k (front ++ rest) ≡ front
  front-point k d within point =
      take_at front rest k
      (elim (cases_lt k (length front)) [
        | inl short ↦
            let fails = point.1 k d (omega arith) (omega (arith, length-append front rest)) in
            absurd (false≢true (sym fails ∙ passes-before k d short))
        | inr from ↦ elim (cases_lt (length front) k) [
          | inl long ↦
              let passes = point.0 (length front) d (omega arith) long in
              absurd (false≢true (sym (fails-behind (length front) d (omega arith) (omega arith)) ∙ passes))
          | inr to ↦ omega arith
        ]
      ])

module _ (ws : List ℕ) (n a u : ℕ) (lower : a ≤ u) where
  pub is_high : List ℕ → Bool
  is_high y = ltb u (bound_of ceiling_of ws y)

  -- the counts that are above the lower number only
  pub between : List (List ℕ)
  between = sorted_by (stands_before ws) (filter (λ y. not (is_high y)) (counts_over ws n a))

  high-over : filter is_high (counts_over ws n a) ≡ counts_over ws n u
  unfolding counts_over is_high
  high-over =
      filter_narrower (λ y. ltb a (bound_of ceiling_of ws y)) is_high (compositions (length ws) n)
      (λ y above.
      let more = ltb-true u (bound_of ceiling_of ws y) above in
      lt-ltb a (bound_of ceiling_of ws y) (omega arith))

  high-sorted : All (λ y. u < bound_of ceiling_of ws y) (sorted_by (stands_before ws) (counts_over ws n u))
  high-sorted =
      All-permutation (λ y. u < bound_of ceiling_of ws y) (counts_over ws n u)
      (sorted_by (stands_before ws) (counts_over ws n u))
      (IsPermutation-sorted_by (stands_before ws) (counts_over ws n u)) (over-above ws n u)

  low-sorted : All (λ y. bound_of ceiling_of ws y ≤ u) between
  unfolding between is_high
  low-sorted =
      let kept : List (List ℕ) = filter (λ y. not (is_high y)) (counts_over ws n a) in
      All-permutation (λ y. bound_of ceiling_of ws y ≤ u) kept (sorted_by (stands_before ws) kept)
      (IsPermutation-sorted_by (stands_before ws) kept)
      (All-weaker (λ y. not (is_high y) ≡ true) (λ y. bound_of ceiling_of ws y ≤ u)
      (λ y fails. ltb-false u (bound_of ceiling_of ws y) (not-true (is_high y) fails)) kept
      (filter_passes (λ y. not (is_high y)) (counts_over ws n a)))

  front-counts : sorted_by (stands_before ws) (counts_over ws n u) ++ between
      ≡ sorted_by (stands_before ws) (counts_over ws n a)
  unfolding between
  front-counts =
      let order = stands_before-IsStrictOrder ws in
      let kept : List (List ℕ) = filter (λ y. not (is_high y)) (counts_over ws n a) in
      let parts : IsPermutation (counts_over ws n a) (counts_over ws n u ++ kept) =
      rw high-over at (IsPermutation-filter_both is_high (λ y. not (is_high y)) (λ y. refl) (counts_over ws n a)) in
      sorted_by-only order (counts_over ws n a) (sorted_by (stands_before ws) (counts_over ws n u) ++ between)
      (IsPermutation-trans _ _ _ parts
      (IsPermutation-append _ _ _ _ (IsPermutation-sorted_by (stands_before ws) (counts_over ws n u))
      (IsPermutation-sorted_by (stands_before ws) kept)))
      (sorted-append ws u _ _ (IsSortedBy-sorted_by order (counts_over ws n u)) (IsSortedBy-sorted_by order kept)
      high-sorted low-sorted)

  pub items_between : List SubIsotopologue
  items_between = map (sub_isotopologue_of ws) between

  pub front-items : items_over ws n a ≡ items_over ws n u ++ items_between
  unfolding items_over items_between
  front-items =
      ap (map (sub_isotopologue_of ws)) (sym front-counts)
      ∙ map-append (sub_isotopologue_of ws) (sorted_by (stands_before ws) (counts_over ws n u)) between

  items-high : All (λ i. ltb u i.hi ≡ true) (items_over ws n u)
  unfolding items_over sub_isotopologue_of
  items-high =
      All-map (λ i. ltb u i.hi ≡ true) (sub_isotopologue_of ws) (sorted_by (stands_before ws) (counts_over ws n u))
      (All-weaker (λ y. u < bound_of ceiling_of ws y) (λ y. ltb u (bound_of ceiling_of ws y) ≡ true)
      (λ y above. lt-ltb u (bound_of ceiling_of ws y) above) _ high-sorted)

  items-low : All (λ i. ltb u i.hi ≡ false) items_between
  unfolding items_between sub_isotopologue_of
  items-low =
      All-map (λ i. ltb u i.hi ≡ false) (sub_isotopologue_of ws) between
      (All-weaker (λ y. bound_of ceiling_of ws y ≤ u) (λ y. ltb u (bound_of ceiling_of ws y) ≡ false)
      (λ y below. le-ltb u (bound_of ceiling_of ws y) below) _ low-sorted)

  pub items-parted : IsPartitionedBy (λ i. ltb u i.hi) (items_over ws n a)
  items-parted = rw front-items (front-parted (λ (i : SubIsotopologue). ltb u i.hi) (items_over ws n u) items_between
      items-high items-low)

  -- as many items as are above the higher number are its items
  pub items-first : (k : ℕ) → k ≤ length (items_over ws n a) →
      IsPartitionPoint (λ i. ltb u i.hi ≡ true) (λ i. ltb u i.hi ≡ false) (items_over ws n a) k →
      take k (items_over ws n a) ≡ items_over ws n u
  items-first k within point =
      rw front-items
      (front-point (λ (i : SubIsotopologue). ltb u i.hi) (items_over ws n u) items_between items-high items-low k
      (record { counts = []; lo = 0; hi = 0 }) (rw front-items at within) (rw front-items at point))
