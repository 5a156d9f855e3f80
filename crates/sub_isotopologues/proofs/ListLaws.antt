-- The items of a list: exactly the counts whose product with the others is above the threshold, each once, in their
-- order.
use Rattle.std.proofs.Common.{◌≡◌, ◌≢◌, ℕ, ◌*◌, ◌<◌, ◌≤◌, true, List, [], ◌∷◌, length, map, get_or, ltb, refl, sym, ◌∙◌, ap, subst, arith, All, ⊎_elim}
use Rattle.std.specs.Prelude.{◌↔◌, AllPairs, Contains}
use Rattle.std.specs.Ordering.{nat_cmp}
use Rattle.std.specs.declared.cmp.Ordering.TheVariants.{Less}
use Rattle.std.specs.Cmp.Lexicographic.{slice_cmp}
use Rattle.std.proofs.Math.Nat.{le_trans, mul-le-mul_right, mul-le-mul_left}
use Rattle.std.proofs.lemmas.Bool.{cases_lt, lt-ltb, le-ltb, ltb-true}
use Rattle.std.proofs.lemmas.List.{length-map, get_or-map}
use Rattle.std.proofs.lemmas.List.Elements.{All-weaker, All-filter, filter_passes}
use Rattle.std.proofs.lemmas.List.Kept.{AllPairs-filter}
use Rattle.std.proofs.lemmas.List.Sorted.{All-permutation, sorted_far}
use Rattle.sorted_lists.specs.SortedLists.{sorted_by, IsTheOrder}
use Rattle.sorted_lists.proofs.SortedListLaws.{IsPermutation-sorted_by, IsSortedBy-sorted_by, the-order}
use Rattle.multinomial_bounds.specs.Weight.{IsWeights, IsCounts, weight_of, total_of}
use Rattle.multinomial_bounds.specs.Bounds.{certainty, ceiling_of, IsEnclosure}
use Rattle.multinomial_bounds.specs.Path.{bound_of}
use Rattle.multinomial_bounds.specs.Compositions.{compositions, counts_of}
use Rattle.multinomial_bounds.proofs.CompositionLemmas.{compositions-IsCounts}
use Rattle.multinomial_bounds.proofs.LexicographicOrder.{compositions_in_order}
use Rattle.multinomial_bounds.proofs.BoundLemmas.{ceiling_of-le, le-ceiling_of-mul}
use Rattle.sub_isotopologues.specs.SubIsotopologues.{SubIsotopologue, sub_isotopologue_of, stands_before, product_with, raised}
use Rattle.sub_isotopologues.specs.Children.{counts_over}
use Rattle.sub_isotopologues.specs.Listings.{Listing, counts_above, items_of}
use Rattle.sub_isotopologues.specs.Growth.{items_over}
use Rattle.sub_isotopologues.proofs.ListParts.{filter_agree_on, contains_filter}
use Rattle.sub_isotopologues.proofs.CountsOver.{compositions_distinct, Contains-compositions}
use Rattle.sub_isotopologues.proofs.CutoffLemmas.{product_with-is}
use Rattle.sub_isotopologues.proofs.Descent.{hi-enclosed}
use Rattle.sub_isotopologues.proofs.ItemOrder.{stands_before-IsStrictOrder, hi-falls}

same_tests : (a b c d : ℕ) → (a < b) ↔ (c < d) → ltb a b ≡ ltb c d
same_tests a b c d same =
    ⊎_elim
    (λ (h : a < b). lt-ltb a b h ∙ sym (lt-ltb c d (same.0 h)))
    (λ (h : b ≤ a).
    ⊎_elim
    (λ (k : c < d). absurd (let g : a < b = same.1 k in omega arith))
    (λ (k : d ≤ c). le-ltb a b h ∙ sym (le-ltb c d k))
    (cases_lt c d))
    (cases_lt a b)

-- a list by the greatest upper bound that is out of it
module _ (l : Listing) (cut : ℕ) (ok : IsWeights l.element.weights)
    (cuts : (hi : ℕ) → hi ≤ certainty → (l.threshold < product_with l.before l.after hi) ↔ (cut < hi)) where
  pub counts_above-cut : counts_above l ≡ counts_over l.element.weights l.element.atoms cut
  unfolding counts_above counts_over counts_of
  counts_above-cut =
      filter_agree_on
      (λ c. ltb l.threshold (product_with l.before l.after (bound_of ceiling_of l.element.weights c)))
      (λ c. ltb cut (bound_of ceiling_of l.element.weights c))
      (compositions (length l.element.weights) l.element.atoms)
      (All-weaker (IsCounts l.element.weights l.element.atoms)
      (λ c.
      ltb l.threshold (product_with l.before l.after (bound_of ceiling_of l.element.weights c))
      ≡ ltb cut (bound_of ceiling_of l.element.weights c))
      (λ c is.
      same_tests l.threshold _ cut _
      (cuts (bound_of ceiling_of l.element.weights c)
      (hi-enclosed l.element.weights l.element.atoms ok c is).at_most_one))
      (compositions (length l.element.weights) l.element.atoms)
      (compositions-IsCounts l.element.weights l.element.atoms))

  pub items_of-cut : items_of l ≡ items_over l.element.weights l.element.atoms cut
  unfolding items_of items_over
  items_of-cut =
      ap (λ cs. map (sub_isotopologue_of l.element.weights) (sorted_by (stands_before l.element.weights) cs))
      counts_above-cut

-- a lower threshold has no greater cut
pub cut-falls : (before : ℕ) (after : List ℕ) (t t' cut cut' : ℕ) → t' ≤ t → cut' ≤ certainty →
    ((hi : ℕ) → hi ≤ certainty → (t < product_with before after hi) ↔ (cut < hi)) →
    ((hi : ℕ) → hi ≤ certainty → (t' < product_with before after hi) ↔ (cut' < hi)) → cut' ≤ cut
cut-falls before after t t' cut cut' lower most cuts cuts' =
    ⊎_elim
    (λ (h : cut < cut').
    let above : t < product_with before after cut' = (cuts cut' most).1 h in
    let itself : cut' < cut' = (cuts' cut' most).0 (omega arith) in
    absurd (omega arith))
    (λ (h : cut' ≤ cut). h)
    (cases_lt cut cut')

-- The product rises with the upper bound.
ceiling-rises : (m n b : ℕ) → 0 < b → m ≤ n → ceiling_of m b ≤ ceiling_of n b
ceiling-rises m n b pos le =
    ceiling_of-le m b (ceiling_of n b) pos (le_trans le (le-ceiling_of-mul n b pos))

raised-rises : (p q : ℕ) (bounds : List ℕ) → p ≤ q → raised p bounds ≤ raised q bounds
unfolding raised
raised-rises p q [] le = le
raised-rises p q (h ∷ bounds) le =
    raised-rises (ceiling_of (p * h) certainty) (ceiling_of (q * h) certainty) bounds
    (ceiling-rises (p * h) (q * h) certainty (omega arith) (mul-le-mul_right h le))

pub product_with-rises : (before : ℕ) (after : List ℕ) (lower higher : ℕ) → lower ≤ higher →
    product_with before after lower ≤ product_with before after higher
product_with-rises before after lower higher le =
    rw (product_with-is before after lower, product_with-is before after higher)
    (raised-rises (ceiling_of (before * lower) certainty) (ceiling_of (before * higher) certainty) after
    (ceiling-rises (before * lower) (before * higher) certainty (omega arith) (mul-le-mul_left before le)))

-- what the counts of a list are
module _ (l : Listing) where
  -- the items are the counts in their order, with their bounds
  pub items_of-counts : items_of l ≡ map (sub_isotopologue_of l.element.weights)
      (sorted_by (stands_before l.element.weights) (counts_above l))
  unfolding items_of
  items_of-counts = refl

  pub counts_above-IsCounts : All (IsCounts l.element.weights l.element.atoms) (counts_above l)
  unfolding counts_above counts_of
  counts_above-IsCounts =
      All-filter (λ c. ltb l.threshold (product_with l.before l.after (bound_of ceiling_of l.element.weights c)))
      (IsCounts l.element.weights l.element.atoms) (compositions (length l.element.weights) l.element.atoms)
      (compositions-IsCounts l.element.weights l.element.atoms)

  pub counts_above-above :
      All (λ c. l.threshold < product_with l.before l.after (bound_of ceiling_of l.element.weights c)) (counts_above l)
  unfolding counts_above
  counts_above-above =
      All-weaker (λ c. ltb l.threshold (product_with l.before l.after (bound_of ceiling_of l.element.weights c)) ≡ true)
      (λ c. l.threshold < product_with l.before l.after (bound_of ceiling_of l.element.weights c))
      (λ c above. ltb-true l.threshold (product_with l.before l.after (bound_of ceiling_of l.element.weights c)) above)
      (counts_above l)
      (filter_passes (λ c. ltb l.threshold (product_with l.before l.after (bound_of ceiling_of l.element.weights c)))
      (counts_of l.element))

  pub Contains-counts_above : (c : List ℕ) → IsCounts l.element.weights l.element.atoms c →
      l.threshold < product_with l.before l.after (bound_of ceiling_of l.element.weights c) → Contains
      (counts_above l) c
  unfolding counts_above counts_of
  Contains-counts_above c is above =
      contains_filter (λ c. ltb l.threshold (product_with l.before l.after (bound_of ceiling_of l.element.weights c)))
      (compositions (length l.element.weights) l.element.atoms) c
      (lt-ltb l.threshold (product_with l.before l.after (bound_of ceiling_of l.element.weights c)) above)
      (Contains-compositions l.element.weights l.element.atoms c is)

  pub counts_above-distinct : AllPairs (λ a b. a ≢ b) (counts_above l)
  unfolding counts_above counts_of
  counts_above-distinct =
      AllPairs-filter (λ a b. a ≢ b)
      (λ c. ltb l.threshold (product_with l.before l.after (bound_of ceiling_of l.element.weights c)))
      (compositions (length l.element.weights) l.element.atoms)
      (compositions_distinct (length l.element.weights) l.element.atoms)

  pub counts_above-lexicographic : AllPairs (λ a b. slice_cmp nat_cmp a b ≡ Less) (counts_above l)
  unfolding counts_above counts_of
  counts_above-lexicographic =
      AllPairs-filter (λ a b. slice_cmp nat_cmp a b ≡ Less)
      (λ c. ltb l.threshold (product_with l.before l.after (bound_of ceiling_of l.element.weights c)))
      (compositions (length l.element.weights) l.element.atoms)
      (compositions_in_order (length l.element.weights) l.element.atoms)

  pub counts_above-order :
      IsTheOrder (stands_before l.element.weights) (counts_above l)
      (sorted_by (stands_before l.element.weights) (counts_above l))
  counts_above-order = the-order (stands_before-IsStrictOrder l.element.weights) (counts_above l)

  -- a fact of each item, from one of its counts
  pub each-item : (P : SubIsotopologue → Type 0) →
      ((c : List ℕ) → IsCounts l.element.weights l.element.atoms c → P (sub_isotopologue_of l.element.weights c)) →
      All P (items_of l)
  unfolding items_of
  each-item P of_counts k d within =
      let inside : k < length (sorted_by (stands_before l.element.weights) (counts_above l)) = rw length-map at within
      in
      let is : IsCounts l.element.weights l.element.atoms
      (get_or (sorted_by (stands_before l.element.weights) (counts_above l)) k []) =
      All-permutation (IsCounts l.element.weights l.element.atoms) (counts_above l)
      (sorted_by (stands_before l.element.weights) (counts_above l))
      (IsPermutation-sorted_by (stands_before l.element.weights) (counts_above l)) counts_above-IsCounts k [] inside in
      subst P (sym (get_or-map (sub_isotopologue_of l.element.weights)
      (sorted_by (stands_before l.element.weights) (counts_above l)) k [] d inside))
      (of_counts (get_or (sorted_by (stands_before l.element.weights) (counts_above l)) k []) is)

  pub items-IsCounts : All (λ i. IsCounts l.element.weights l.element.atoms i.counts) (items_of l)
  unfolding sub_isotopologue_of
  items-IsCounts = each-item (λ i. IsCounts l.element.weights l.element.atoms i.counts) (λ c is. is)

  pub items-IsEnclosure : IsWeights l.element.weights →
      All (λ i. IsEnclosure i.lo i.hi (weight_of l.element.weights l.element.atoms i.counts)
      (total_of l.element.weights l.element.atoms))
      (items_of l)
  unfolding sub_isotopologue_of
  items-IsEnclosure ok =
      each-item
      (λ i. IsEnclosure i.lo i.hi (weight_of l.element.weights l.element.atoms i.counts)
      (total_of l.element.weights l.element.atoms))
      (λ c is. hi-enclosed l.element.weights l.element.atoms ok c is)

  pub items-falling : AllPairs (λ i j. j.hi ≤ i.hi) (items_of l)
  unfolding items_of sub_isotopologue_of
  items-falling i j d before within =
      let ws : List ℕ = l.element.weights in
      let inside : j < length (sorted_by (stands_before l.element.weights) (counts_above l)) = rw length-map at within
      in
      let order = stands_before-IsStrictOrder l.element.weights in
      let behind = sorted_far (stands_before l.element.weights) order.weak
      (sorted_by (stands_before l.element.weights) (counts_above l))
      (IsSortedBy-sorted_by order (counts_above l)) i j [] (omega arith) inside in
      rw (
        get_or-map (sub_isotopologue_of l.element.weights)
            (sorted_by (stands_before l.element.weights) (counts_above l)) i [] d (omega arith),
        get_or-map (sub_isotopologue_of l.element.weights)
            (sorted_by (stands_before l.element.weights) (counts_above l)) j [] d inside,
      )
      (hi-falls l.element.weights (get_or (sorted_by (stands_before l.element.weights) (counts_above l)) i [])
      (get_or (sorted_by (stands_before l.element.weights) (counts_above l)) j []) behind)
