-- The members of a layer: all isotopologues whose upper bound is above its threshold, none twice; in the cover's
-- order they are the same members.
use Rattle.std.proofs.Common.{◌≡◌, ℕ, zero, suc, ◌<◌, ◌≤◌, Bool, true, false, cond, ltb, List, [], ◌∷◌, get_or, sym, ◌∙◌, ap, arith, All, ⊎_elim, inl, inr}
use Rattle.std.specs.Prelude.{◌≢◌, ◌⊎◌, AllPairs, Contains, filter}
use Rattle.std.specs.Prelude.{◌↔◌}
use Rattle.std.specs.Ordering.{nat_cmp}
use Rattle.std.specs.declared.cmp.Ordering.TheVariants.{Less}
use Rattle.std.specs.Cmp.Lexicographic.{slice_cmp}
use Rattle.multinomial_bounds.proofs.LexicographicOrder.{isotopologues_in_order}
use Rattle.std.specs.List.Sorted.{IsPermutation}
use Rattle.std.proofs.lemmas.Bool.{cases_lt, lt-ltb, ltb-true}
use Rattle.std.proofs.lemmas.List.Elements.{All-contains, All-filter, All-weaker, Contains-append_right, filter_passes}
use Rattle.std.proofs.lemmas.List.Kept.{AllPairs-filter}
use Rattle.std.proofs.lemmas.List.Sorted.{All-permutation, Contains-permutation, sorted_far, sum_by-IsPermutation}
use Rattle.sorted_lists.proofs.SortedListLaws.{IsPermutation-sorted_by, IsSortedBy-sorted_by, AllPairs-sorted_by}
use Rattle.multinomial_bounds.specs.Isotopologue.{Element, IsIsotopologue}
use Rattle.multinomial_bounds.specs.Compositions.{isotopologues_of}
use Rattle.multinomial_bounds.proofs.IsotopologueList.{isotopologues_complete, isotopologues_of-IsIsotopologue}
use Rattle.isotopologue_sets.specs.Layers.{lo_of, hi_of, lo_total, layer}
use Rattle.isotopologue_sets.specs.Covers.{stands_before, ordered_layer}
use Rattle.isotopologue_sets.proofs.GreatestSums.{Falls}
use Rattle.isotopologue_sets.proofs.EachOnce.{isotopologues_distinct}
use Rattle.isotopologue_sets.proofs.CoverOrder.{stands_before-IsStrictOrder, lo_of-falls}

-- what passes a filter stays
contains_filter : {X : Type 0} (p : X → Bool) (xs : List X) (x : X) → p x ≡ true → Contains xs x →
    Contains (filter p xs) x
contains_filter p [] x passes c = absurd (omega (arith, c.1))
contains_filter p (y ∷ xs) x passes (zero, within, is) =
    let here : p y ≡ true = ap p is ∙ passes in
    rw here (0, omega arith, is)
contains_filter p (y ∷ xs) x passes (suc k, within, is) =
    let rest : Contains (filter p xs) x = contains_filter p xs x passes (k, omega arith, is) in
    elim (p y) as (λ b. Contains (cond b (y ∷ filter p xs) (filter p xs)) x) [
      | true ↦ Contains-append_right (y ∷ []) (filter p xs) x rest
      | false ↦ rest
    ]

-- the layer of a threshold
module _ (es : List Element) (threshold : ℕ) where
  pub layer-IsIsotopologue : All (IsIsotopologue es) (layer es threshold)
  unfolding layer
  layer-IsIsotopologue =
      All-filter (λ i. ltb threshold (hi_of es i)) (IsIsotopologue es) (isotopologues_of es)
      (isotopologues_of-IsIsotopologue es)

  pub layer-above : All (λ i. threshold < hi_of es i) (layer es threshold)
  unfolding layer
  layer-above =
      All-weaker (λ i. ltb threshold (hi_of es i) ≡ true) (λ i. threshold < hi_of es i)
      (λ i above. ltb-true threshold (hi_of es i) above) (layer es threshold)
      (filter_passes (λ i. ltb threshold (hi_of es i)) (isotopologues_of es))

  contains_layer : (i : List (List ℕ)) → IsIsotopologue es i → threshold < hi_of es i → Contains (layer es threshold) i
  unfolding layer
  contains_layer i is above =
      contains_filter (λ i. ltb threshold (hi_of es i)) (isotopologues_of es) i (lt-ltb threshold (hi_of es i) above)
      (isotopologues_complete es i is)

  -- The layer has exactly the isotopologues whose upper bound is above the threshold, in lexicographic order.
  pub Contains-layer : (i : List (List ℕ)) →
      Contains (layer es threshold) i ↔ (IsIsotopologue es i × (threshold < hi_of es i))
  Contains-layer i = (
    λ member. (
      All-contains (IsIsotopologue es) (layer es threshold) i layer-IsIsotopologue member,
      All-contains (λ i. threshold < hi_of es i) (layer es threshold) i layer-above member,
    ),
    λ both. contains_layer i both.0 both.1,
  )

  pub layer_in_order : AllPairs (λ i j. slice_cmp (slice_cmp nat_cmp) i j ≡ Less) (layer es threshold)
  unfolding layer
  layer_in_order =
      AllPairs-filter (λ i j. slice_cmp (slice_cmp nat_cmp) i j ≡ Less) (λ i. ltb threshold (hi_of es i))
      (isotopologues_of es) (isotopologues_in_order es)

  pub layer-distinct : AllPairs (λ i j. i ≢ j) (layer es threshold)
  unfolding layer
  layer-distinct =
      AllPairs-filter (λ i j. i ≢ j) (λ i. ltb threshold (hi_of es i)) (isotopologues_of es) (isotopologues_distinct es)

  -- an isotopologue is a member, or its upper bound is at most the threshold
  pub layer-cases : (i : List (List ℕ)) → IsIsotopologue es i →
      Contains (layer es threshold) i ⊎ (hi_of es i ≤ threshold)
  layer-cases i is =
      ⊎_elim
      (λ (above : threshold < hi_of es i). inl (contains_layer i is above))
      (λ (below : hi_of es i ≤ threshold). inr below)
      (cases_lt threshold (hi_of es i))

  -- the same members in the cover's order
  pub ordered_layer-IsPermutation : IsPermutation (layer es threshold) (ordered_layer es threshold)
  unfolding ordered_layer
  ordered_layer-IsPermutation = IsPermutation-sorted_by (stands_before es) (layer es threshold)

  pub ordered_layer-IsIsotopologue : All (IsIsotopologue es) (ordered_layer es threshold)
  ordered_layer-IsIsotopologue =
      All-permutation (IsIsotopologue es) (layer es threshold) (ordered_layer es threshold) ordered_layer-IsPermutation
      layer-IsIsotopologue

  pub ordered_layer-above : All (λ i. threshold < hi_of es i) (ordered_layer es threshold)
  ordered_layer-above =
      All-permutation (λ i. threshold < hi_of es i) (layer es threshold) (ordered_layer es threshold)
      ordered_layer-IsPermutation layer-above

  pub ordered_layer-distinct : AllPairs (λ i j. i ≢ j) (ordered_layer es threshold)
  unfolding ordered_layer
  ordered_layer-distinct =
      AllPairs-sorted_by (λ i j. i ≢ j) (λ i j apart same. apart (sym same)) (stands_before es) (layer es threshold)
      layer-distinct

  pub ordered_layer-cases : (i : List (List ℕ)) → IsIsotopologue es i →
      Contains (ordered_layer es threshold) i ⊎ (hi_of es i ≤ threshold)
  ordered_layer-cases i is =
      ⊎_elim
      (λ (member : Contains (layer es threshold) i).
      inl (Contains-permutation (layer es threshold) (ordered_layer es threshold) i ordered_layer-IsPermutation member))
      (λ (below : hi_of es i ≤ threshold). inr below)
      (layer-cases i is)

  pub ordered_layer-falls : Falls (lo_of es) (ordered_layer es threshold)
  unfolding ordered_layer
  ordered_layer-falls i j d before within =
      let order = stands_before-IsStrictOrder es in
      lo_of-falls es (get_or (ordered_layer es threshold) i d) (get_or (ordered_layer es threshold) j d)
      (sorted_far (stands_before es) order.weak (ordered_layer es threshold)
      (IsSortedBy-sorted_by order (layer es threshold)) i j d before within)

  pub lo_total-ordered_layer : lo_total es (ordered_layer es threshold) ≡ lo_total es (layer es threshold)
  lo_total-ordered_layer =
      sum_by-IsPermutation (lo_of es) (layer es threshold) (ordered_layer es threshold) ordered_layer-IsPermutation
