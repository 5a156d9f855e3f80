-- The items of an element's list are the first of all its counts in order; those left out are not above its threshold.
use Rattle.std.proofs.Common.{◌≡◌, ℕ, zero, suc, ◌<◌, ◌≤◌, Bool, true, false, ltb, List, [], ◌∷◌, map, length, get_or}
use Rattle.std.proofs.Common.{take, fold, refl, sym, ◌∙◌, ap, arith, ⊎_elim, All}
use Rattle.std.specs.Prelude.{filter, Contains}
use Rattle.std.proofs.lemmas.Bool.{cases_Bool, lt-ltb, ltb-true, ltb-false, false≢true}
use Rattle.std.proofs.lemmas.List.{length-map, get_or-map, get_or_default, take-map, map-id, get_or-take}
use Rattle.std.proofs.lemmas.List.Elements.{filter_passes}
use Rattle.std.proofs.lemmas.List.Kept.{IsSortedBy-filter}
use Rattle.std.proofs.lemmas.List.Sorted.{All-permutation, Contains-permutation, sorted_far}
use Rattle.sorted_lists.specs.SortedLists.{sorted_by, IsStrictOrder}
use Rattle.sorted_lists.proofs.SortedListLaws.{IsPermutation-sorted_by, IsSortedBy-sorted_by, sorted_by-only}
use Rattle.multinomial_bounds.specs.Bounds.{floor_of, ceiling_of}
use Rattle.multinomial_bounds.specs.Weight.{IsWeights, IsCounts}
use Rattle.multinomial_bounds.specs.Mode.{mode_of_atoms, mode_bound}
use Rattle.multinomial_bounds.specs.Path.{bound_of}
use Rattle.multinomial_bounds.specs.Isotopologue.{Element}
use Rattle.multinomial_bounds.specs.Compositions.{counts_of}
use Rattle.multinomial_bounds.proofs.EnclosureLemmas.{bound_of-mode}
use Rattle.multinomial_bounds.proofs.CompositionLemmas.{compositions-IsCounts, compositions_complete}
use Rattle.sub_isotopologues.specs.SubIsotopologues.{SubIsotopologue, sub_isotopologue_of, stands_before, product_with}
use Rattle.sub_isotopologues.specs.Listings.{Listing, counts_above, items_of}
use Rattle.layered_envelope.specs.ChosenPlaces.{Falls}
use Rattle.layered_envelope.specs.PlacedLayers.{ordered_counts}
use Rattle.layered_envelope.specs.Walks.{upper}
use Rattle.layered_envelope.proofs.RoundedProducts.{upper-rises}
use Rattle.layered_envelope.proofs.NextChoice.{fold-rises}
use Rattle.layered_envelope.proofs.Rearranged.{IsPermutation-from, Rearranged-filter, Rearranged-sorted_by}
use Rattle.sub_isotopologues.proofs.ItemOrder.{stands_before-IsStrictOrder, hi-falls}
use Rattle.sub_isotopologues.proofs.Descent.{mode_counts}
use Rattle.layered_envelope.proofs.LayersByPlace.{map_map}
use Rattle.layered_envelope.proofs.ModeIsGreatest.{hi-le-mode}

-- a filter whose passing members stand first keeps a front of the list
module _ {X : Type 0} (p : X → Bool) where
  filter_first : (xs : List X) →
      ((i j : ℕ) (d : X) → i ≤ j → j < length xs → p (get_or xs j d) ≡ true → p (get_or xs i d) ≡ true) →
      (filter p xs ≡ take (length (filter p xs)) xs) × (length (filter p xs) ≤ length xs)
      × ((k : ℕ) (d : X) → length (filter p xs) ≤ k → k < length xs → p (get_or xs k d) ≡ false)
  filter_first [] first = (refl, omega arith, λ k d from to. absurd (omega arith))
  filter_first (x ∷ xs) first =
      ⊎_elim
      (λ (t : p x ≡ true).
      let rest =
      filter_first xs (λ i j d le within passes. first (suc i) (suc j) d (omega arith) (omega arith) passes) in
      rw t (
        ap (λ ys. x ∷ ys) rest.0,
        omega (arith, rest.1),
        λ k d from to. later k d rest.2 from to,
      ))
      (λ (t : p x ≡ false).
      let none : filter p xs ≡ [] = all_fail xs (λ k d within.
      ⊎_elim
      (λ (u : p (get_or xs k d) ≡ true). absurd (false≢true (sym t ∙ first 0 (suc k) d (omega arith) (omega arith) u)))
      (λ (u : p (get_or xs k d) ≡ false). u)
      (cases_Bool (p (get_or xs k d)))) in
      rw (t, none) (
        refl,
        omega arith,
        λ k d from to. fails k d t first to,
      ))
      (cases_Bool (p x))
    where
      all_fail : (ys : List X) → ((k : ℕ) (d : X) → k < length ys → p (get_or ys k d) ≡ false) → filter p ys ≡ []
      all_fail [] none = refl
      all_fail (y ∷ ys) none = rw (none 0 y (omega arith)) (all_fail ys (λ k d within. none (suc k) d (omega arith)))

      later : (k : ℕ) (d : X) →
          ((k : ℕ) (d : X) → length (filter p xs) ≤ k → k < length xs → p (get_or xs k d) ≡ false) →
          suc (length (filter p xs)) ≤ k → k < suc (length xs) → p (get_or (x ∷ xs) k d) ≡ false
      later zero d rest from to = absurd (omega arith)
      later (suc k) d rest from to = rest k d (omega arith) (omega arith)

      fails : (k : ℕ) (d : X) → p x ≡ false →
          ((i j : ℕ) (d : X) → i ≤ j → j < suc (length xs) → p (get_or (x ∷ xs) j d) ≡ true →
          p (get_or (x ∷ xs) i d) ≡ true) →
          k < suc (length xs) → p (get_or (x ∷ xs) k d) ≡ false
      fails k d t first to =
          ⊎_elim
          (λ (u : p (get_or (x ∷ xs) k d) ≡ true). absurd (false≢true (sym t ∙ first 0 k d (omega arith) to u)))
          (λ (u : p (get_or (x ∷ xs) k d) ≡ false). u)
          (cases_Bool (p (get_or (x ∷ xs) k d)))

-- all counts of an element, in order
module _ (e : Element) (ok : IsWeights e.weights) where
  order : IsStrictOrder (stands_before e.weights)
  order = stands_before-IsStrictOrder e.weights

  pub ordered-IsCounts : All (IsCounts e.weights e.atoms) (ordered_counts e)
  unfolding ordered_counts counts_of
  ordered-IsCounts =
      All-permutation (IsCounts e.weights e.atoms) (counts_of e) (ordered_counts e)
      (IsPermutation-sorted_by (stands_before e.weights) (counts_of e)) (compositions-IsCounts e.weights e.atoms)

  pub Contains-ordered : (y : List ℕ) → IsCounts e.weights e.atoms y → Contains (ordered_counts e) y
  unfolding ordered_counts counts_of
  Contains-ordered y is =
      Contains-permutation (counts_of e) (ordered_counts e) y
      (IsPermutation-sorted_by (stands_before e.weights) (counts_of e))
      (rw is.places_agree at (compositions_complete y e.atoms is.atoms_agree))

  pub hi-ordered : (i j : ℕ) (d : List ℕ) → i ≤ j → j < length (ordered_counts e) →
      bound_of ceiling_of e.weights (get_or (ordered_counts e) j d) ≤ bound_of ceiling_of e.weights
      (get_or (ordered_counts e) i d)
  unfolding ordered_counts
  hi-ordered i j d le within =
      hi-falls e.weights (get_or (ordered_counts e) i d) (get_or (ordered_counts e) j d)
      (sorted_far (stands_before e.weights) order.weak (ordered_counts e)
      (IsSortedBy-sorted_by order (counts_of e)) i j d le within)

  -- the first has the mode's upper bound
  pub first-hi : (d : List ℕ) →
      bound_of ceiling_of e.weights (get_or (ordered_counts e) 0 d) ≡ mode_bound ceiling_of e.weights e.atoms
  first-hi d =
      let mode = mode_of_atoms e.weights e.atoms in
      let has : Contains (ordered_counts e) mode = Contains-ordered mode (mode_counts e.weights e.atoms ok) in
      let some : 0 < length (ordered_counts e) = omega (arith, has.1) in
      let at_mode : get_or (ordered_counts e) has.0 mode ≡ mode = has.2 in
      let counts : IsCounts e.weights e.atoms (get_or (ordered_counts e) 0 d) = ordered-IsCounts 0 d some in
      let upto : bound_of ceiling_of e.weights
      (get_or (ordered_counts e) 0 d) ≤ mode_bound ceiling_of e.weights e.atoms =
      hi-le-mode e.weights e.atoms ok (get_or (ordered_counts e) 0 d) counts in
      let from : bound_of ceiling_of e.weights mode ≤ bound_of ceiling_of e.weights (get_or (ordered_counts e) 0 mode) =
      rw at_mode at (hi-ordered 0 has.0 mode (omega arith) has.1) in
      let same : get_or (ordered_counts e) 0 mode ≡ get_or (ordered_counts e) 0 d =
      get_or_default (ordered_counts e) 0 mode d some in
      let lower : mode_bound ceiling_of e.weights e.atoms ≤ bound_of ceiling_of e.weights
      (get_or (ordered_counts e) 0 d) =
      rw (same, bound_of-mode ceiling_of e.weights ok.some e.atoms) at from in
      omega arith

  pub Falls-ordered : Falls (map (bound_of ceiling_of e.weights) (ordered_counts e))
  Falls-ordered =
      let has : Contains (ordered_counts e) (mode_of_atoms e.weights e.atoms) =
      Contains-ordered (mode_of_atoms e.weights e.atoms) (mode_counts e.weights e.atoms ok) in
      let n : length (map (bound_of ceiling_of e.weights) (ordered_counts e)) ≡ length (ordered_counts e) =
      length-map (ordered_counts e) (bound_of ceiling_of e.weights) in
      record {
        some = omega (arith, has.1, n);
        falls = λ i j le within.
            rw (
              get_or-map (bound_of ceiling_of e.weights) (ordered_counts e) i [] 0 (omega arith),
              get_or-map (bound_of ceiling_of e.weights) (ordered_counts e) j [] 0 (omega arith),
            ) (hi-ordered i j [] le (omega arith));
      }

-- the upper bound of a product with the other elements' modes
pub product_with-upper : (before : ℕ) (after : List ℕ) (hi : ℕ) →
    product_with before after hi ≡ fold upper (upper before hi) after
unfolding product_with upper
product_with-upper before after hi = refl

-- The items of a list: how many counts of the element in order, from the first on, they are. Each of these, and none
-- of the others, has a product above the threshold.
pub record AreFirstItems (l : Listing) : Type 0 where
  pub few : length (items_of l) ≤ length (ordered_counts l.element)
  pub los : map (λ i. i.lo) (items_of l)
      ≡ take (length (items_of l)) (map (bound_of floor_of l.element.weights) (ordered_counts l.element))
  pub his : map (λ i. i.hi) (items_of l)
      ≡ take (length (items_of l)) (map (bound_of ceiling_of l.element.weights) (ordered_counts l.element))
  pub counts : map (λ i. i.counts) (items_of l) ≡ take (length (items_of l)) (ordered_counts l.element)
  pub above : (p : ℕ) → p < length (items_of l) →
      l.threshold < fold upper
      (upper l.before (bound_of ceiling_of l.element.weights (get_or (ordered_counts l.element) p []))) l.after
  pub left_out : (p : ℕ) → length (items_of l) ≤ p → p < length (ordered_counts l.element) →
      fold upper (upper l.before (bound_of ceiling_of l.element.weights (get_or (ordered_counts l.element) p [])))
      l.after ≤ l.threshold

module _ (l : Listing) (ok : IsWeights l.element.weights) where
  wanted : List ℕ → Bool
  wanted counts = ltb l.threshold (product_with l.before l.after (bound_of ceiling_of l.element.weights counts))

  ordered_wanted : sorted_by (stands_before l.element.weights) (counts_above l)
      ≡ filter wanted (ordered_counts l.element)
  unfolding counts_above ordered_counts wanted
  ordered_wanted =
      let o = stands_before-IsStrictOrder l.element.weights in
      sym
      (sorted_by-only o (counts_above l) (filter wanted (ordered_counts l.element))
      (IsPermutation-from
      (Rearranged-filter wanted (Rearranged-sorted_by (stands_before l.element.weights) (counts_of l.element))))
      (IsSortedBy-filter (stands_before l.element.weights) o.weak wanted (ordered_counts l.element)
      (IsSortedBy-sorted_by o (counts_of l.element))))

  wanted_first : (i j : ℕ) (d : List ℕ) → i ≤ j → j < length (ordered_counts l.element) →
      wanted (get_or (ordered_counts l.element) j d) ≡ true → wanted (get_or (ordered_counts l.element) i d) ≡ true
  unfolding wanted
  wanted_first i j d le within passes =
      let hi : ℕ → ℕ = λ k. bound_of ceiling_of l.element.weights (get_or (ordered_counts l.element) k d) in
      let over : l.threshold < fold upper (upper l.before (hi j)) l.after =
      rw product_with-upper at (ltb-true l.threshold (product_with l.before l.after (hi j)) passes) in
      let more : fold upper (upper l.before (hi j)) l.after ≤ fold upper (upper l.before (hi i)) l.after =
      fold-rises upper upper-rises (upper l.before (hi j)) (upper l.before (hi i)) l.after
      (upper-rises l.before l.before (hi j) (hi i) (omega arith) (hi-ordered l.element ok i j d le within)) in
      lt-ltb l.threshold (product_with l.before l.after (hi i)) (rw product_with-upper (omega arith))

  front : (filter wanted (ordered_counts l.element) ≡ take (length (filter wanted (ordered_counts l.element)))
      (ordered_counts l.element))
      × (length (filter wanted (ordered_counts l.element)) ≤ length (ordered_counts l.element))
      × ((k : ℕ) (d : List ℕ) → length (filter wanted (ordered_counts l.element)) ≤ k →
      k < length (ordered_counts l.element) →
      wanted (get_or (ordered_counts l.element) k d) ≡ false)
  front = filter_first wanted (ordered_counts l.element) wanted_first

  items_are : items_of l ≡ map (sub_isotopologue_of l.element.weights) (filter wanted (ordered_counts l.element))
  unfolding items_of
  items_are = ap (map (sub_isotopologue_of l.element.weights)) ordered_wanted

  how_many : length (items_of l) ≡ length (filter wanted (ordered_counts l.element))
  how_many = ap length items_are
      ∙ length-map (filter wanted (ordered_counts l.element)) (sub_isotopologue_of l.element.weights)

  as_many : filter wanted (ordered_counts l.element) ≡ take (length (items_of l)) (ordered_counts l.element)
  as_many = front.0 ∙ ap (λ (n : ℕ). take n (ordered_counts l.element)) (sym how_many)

  pub first_items : AreFirstItems l
  unfolding sub_isotopologue_of wanted
  first_items =
      let n : ℕ = length (items_of l) in
      let all : List (List ℕ) = ordered_counts l.element in
      let ws : List ℕ = l.element.weights in
      record {
        few = rw how_many front.1;
        los =
            ap (map (λ i. i.lo)) items_are
            ∙ map_map (λ (i : SubIsotopologue). i.lo) (sub_isotopologue_of ws) (filter wanted all)
            ∙ ap (map (bound_of floor_of ws)) as_many
            ∙ sym (take-map (bound_of floor_of ws) n all);
        his =
            ap (map (λ i. i.hi)) items_are
            ∙ map_map (λ (i : SubIsotopologue). i.hi) (sub_isotopologue_of ws) (filter wanted all)
            ∙ ap (map (bound_of ceiling_of ws)) as_many
            ∙ sym (take-map (bound_of ceiling_of ws) n all);
        counts =
            ap (map (λ i. i.counts)) items_are
            ∙ map_map (λ (i : SubIsotopologue). i.counts) (sub_isotopologue_of ws) (filter wanted all)
            ∙ map-id (filter wanted all)
            ∙ as_many;
        above = λ p within.
            let inside : p < length (filter wanted all) = rw how_many at within in
            let passes : wanted (get_or (filter wanted all) p []) ≡ true = filter_passes wanted all p [] inside in
            let here : get_or (filter wanted all) p [] ≡ get_or all p [] =
            ap (λ xs. get_or xs p []) as_many ∙ get_or-take n all p [] within in
            let over : wanted (get_or all p []) ≡ true = rw here at passes in
            rw product_with-upper at
            (ltb-true l.threshold (product_with l.before l.after (bound_of ceiling_of ws (get_or all p []))) over);
        left_out = λ p from to.
            let fails : wanted (get_or all p []) ≡ false = front.2 p [] (omega (arith, how_many)) to in
            rw product_with-upper at
            (ltb-false l.threshold (product_with l.before l.after (bound_of ceiling_of ws (get_or all p []))) fails);
      }
