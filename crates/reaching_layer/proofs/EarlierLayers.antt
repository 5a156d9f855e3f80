-- The layer of a threshold, found again in that of a lower one.
use Rattle.std.proofs.Common.{◌≡◌, ℕ, ◌+◌, ◌<◌, ◌≤◌, Bool, true, false, not, cond, ltb, List, [], ◌∷◌, length, map, refl, sym, ◌∙◌, ap, subst, arith, ⊎_elim}
use Rattle.std.specs.Prelude.{filter, sum_by}
use Rattle.std.specs.List.Sorted.{IsPermutation, IsSortedBy}
use Rattle.std.proofs.lemmas.Bool.{cases_Bool, cases_lt, le-ltb, ltb-false, lt-leb, or_from}
use Rattle.std.proofs.lemmas.List.Filters.{length-filter_both, sum_by-filter_both}
use Rattle.std.proofs.lemmas.List.Kept.{IsSortedBy-filter}
use Rattle.sorted_lists.proofs.SortedListLaws.{sorted_by-only, IsSortedBy-sorted_by}
use Rattle.multinomial_bounds.proofs.SumLemmas.{sum_by-map}
use Rattle.multinomial_bounds.specs.Isotopologue.{Element}
use Rattle.multinomial_bounds.specs.Compositions.{isotopologues_of}
use Rattle.isotopologue_sets.specs.Layers.{hi_of, lo_of, lo_total, layer, layer_reaches, has_too_many, ends_search, max_members}
use Rattle.isotopologue_sets.specs.Covers.{Member, member_of, stands_before, ordered_layer}
use Rattle.isotopologue_sets.proofs.CoverOrder.{stands_before-IsStrictOrder}
use Rattle.isotopologue_sets.proofs.LayerLaws.{lo_total-ordered_layer}
use Rattle.layered_envelope.proofs.ChoicesInOrder.{filter_map_by}
use Rattle.layered_envelope.proofs.Rearranged.{IsPermutation-from, Rearranged-filter, Rearranged-sorted_by}

-- a second test that fails wherever the first does
kept_again : {X : Type 0} (p q : X → Bool) → ((x : X) → q x ≡ false → p x ≡ false) → (xs : List X) →
    filter p (filter q xs) ≡ filter p xs
kept_again p q out [] = refl
kept_again p q out (x ∷ xs) =
    ⊎_elim
    (λ (kept : q x ≡ true).
    ap (λ b. filter p (cond b (x ∷ filter q xs) (filter q xs))) kept
    ∙ ap (λ ys. cond (p x) (x ∷ ys) ys) (kept_again p q out xs))
    (λ (dropped : q x ≡ false).
    ap (λ b. filter p (cond b (x ∷ filter q xs) (filter q xs))) dropped ∙ kept_again p q out xs
    ∙ sym (ap (λ b. cond b (x ∷ filter p xs) (filter p xs)) (out x dropped)))
    (cases_Bool (q x))

module _ (es : List Element) (low threshold : ℕ) (lower : low ≤ threshold) where
  earlier : filter (λ i. ltb threshold (hi_of es i)) (layer es low) ≡ layer es threshold
  unfolding layer
  earlier =
      kept_again (λ i. ltb threshold (hi_of es i)) (λ i. ltb low (hi_of es i))
      (λ i out. le-ltb threshold (hi_of es i) (omega (arith, ltb-false low (hi_of es i) out)))
      (isotopologues_of es)

  ordered : filter (λ i. ltb threshold (hi_of es i)) (ordered_layer es low) ≡ ordered_layer es threshold
  unfolding ordered_layer
  ordered =
      let order = stands_before-IsStrictOrder es in
      let p : List (List ℕ) → Bool = λ i. ltb threshold (hi_of es i) in
      sorted_by-only order (layer es threshold) (filter p (ordered_layer es low))
      (subst (λ xs. IsPermutation xs (filter p (ordered_layer es low))) earlier
      (IsPermutation-from (Rearranged-filter p (Rearranged-sorted_by (stands_before es) (layer es low)))))
      (IsSortedBy-filter (stands_before es) order.weak p (ordered_layer es low) (IsSortedBy-sorted_by order (layer es low)))

  earlier-members : filter (λ m. ltb threshold m.hi) (map (member_of es) (ordered_layer es low))
      ≡ map (member_of es) (ordered_layer es threshold)
  earlier-members =
      filter_map_by (λ (m : Member). ltb threshold m.hi) (λ i. ltb threshold (hi_of es i)) (member_of es)
      (ordered_layer es low) (λ i. refl)
      ∙ ap (map (member_of es)) ordered

  earlier-total : sum_by (λ m. m.lo) (filter (λ m. ltb threshold m.hi) (map (member_of es) (ordered_layer es low)))
      ≡ lo_total es (layer es threshold)
  earlier-total =
      ap (sum_by (λ (m : Member). m.lo)) earlier-members
      ∙ sum_by-map (λ (m : Member). m.lo) (member_of es) (ordered_layer es threshold)
      ∙ lo_total-ordered_layer es threshold

  -- what is kept of members that are those of the lower layer, and their total, above a number that is the threshold
  pub earlier-kept : (members kept : List Member) (t : ℕ) → members ≡ map (member_of es) (ordered_layer es low) →
      t ≡ threshold → kept ≡ filter (λ m. ltb t m.hi) members → kept ≡ map (member_of es) (ordered_layer es threshold)
  earlier-kept members kept t are same is =
      is ∙ ap (λ (n : ℕ). filter (λ m. ltb n m.hi) members) same
      ∙ ap (λ (ms : List Member). filter (λ m. ltb threshold m.hi) ms) are
      ∙ earlier-members

  pub earlier-told : (members : List Member) (t total : ℕ) → members ≡ map (member_of es) (ordered_layer es low) →
      t ≡ threshold → total ≡ sum_by (λ m. m.lo) (filter (λ m. ltb t m.hi) members) →
      total ≡ lo_total es (layer es threshold)
  earlier-told members t total are same is =
      is ∙ ap (λ (n : ℕ). sum_by (λ m. m.lo) (filter (λ m. ltb n m.hi) members)) same
      ∙ ap (λ (ms : List Member). sum_by (λ m. m.lo) (filter (λ m. ltb threshold m.hi) ms)) are
      ∙ earlier-total

  module _ (few : has_too_many es low ≡ false) where
    pub earlier-few : has_too_many es threshold ≡ false
    earlier-few =
        let p : List (List ℕ) → Bool = λ i. ltb threshold (hi_of es i) in
        let parts = length-filter_both p (λ i. not (p i)) (λ i. refl) (layer es low) in
        le-ltb max_members (length (layer es threshold))
        (omega (arith, parts, ap length earlier, ltb-false max_members (length (layer es low)) few))

    -- where the lower one doesn't have the coverage either
    pub earlier-short : (coverage : ℕ) → lo_total es (layer es low) < coverage →
        ends_search es coverage threshold ≡ false
    earlier-short coverage short =
        let p : List (List ℕ) → Bool = λ i. ltb threshold (hi_of es i) in
        let parts = sum_by-filter_both p (λ i. not (p i)) (λ i. refl) (lo_of es) (layer es low) in
        or_from (layer_reaches es coverage threshold) (has_too_many es threshold)
        (lt-leb coverage (lo_total es (layer es threshold))
        (omega (arith, parts, ap (lo_total es) earlier, short))) earlier-few
