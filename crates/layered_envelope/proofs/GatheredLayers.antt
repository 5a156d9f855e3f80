-- All members of a layer, gathered by the lists.
use Rattle.std.proofs.Common.{◌≡◌, ℕ, ◌+◌, ◌/◌, ◌^◌, ◌<◌, ◌≤◌, List, [], ◌∷◌, ◌++◌, map, length, get_or, fold, refl}
use Rattle.std.proofs.Common.{sym, ◌∙◌, ap, subst, arith, All, append_assoc, append-nil}
use Rattle.std.specs.Prelude.{flat_map}
use Rattle.std.specs.List.{concat}
use Rattle.std.proofs.lemmas.List.{length-map, get_or-take}
use Rattle.std.proofs.lemmas.List.Elements.{All-head, All-tail, All-weaker}
use Rattle.multinomial_bounds.specs.Bounds.{certainty}
use Rattle.multinomial_bounds.specs.Weight.{IsWeights}
use Rattle.multinomial_bounds.specs.Isotopologue.{Element}
use Rattle.sub_isotopologues.specs.Listings.{Listing, items_of}
use Rattle.layered_envelope.specs.declared.gathering.MemberRow.{MemberRow}
use Rattle.layered_envelope.specs.declared.gathering.Gathering.{Gathering}
use Rattle.layered_envelope.specs.ChosenPlaces.{bounds_at, ArePlaces, above, firsts}
use Rattle.layered_envelope.specs.PlacedLayers.{ordered_counts, counts_at, layer_places}
use Rattle.layered_envelope.specs.Walks.{lower, upper, los_of, his_of}
use Rattle.layered_envelope.specs.Cutoffs.{AreCutoffs}
use Rattle.layered_envelope.specs.LayerLists.{elements_of, AreLists, AreLayers}
use Rattle.layered_envelope.specs.Layerings.{Layering, last_places}
use Rattle.layered_envelope.specs.GatheredRows.{end_to_end, AreRows}
use Rattle.layered_envelope.specs.Gatherings.{counts_from, AreRowsBy, GathersAll}
use Rattle.layered_envelope.proofs.RoundedProducts.{fold-upper-most}
use Rattle.layered_envelope.proofs.StartedLists.{modes-some, modes-most}
use Rattle.layered_envelope.proofs.ItemsInOrder.{AreFirstItems, first_items}
use Rattle.layered_envelope.proofs.ListedLayers.{weights_of, walk-layer, walk-modes, walk-places, lo-at, hi-at}
use Rattle.layered_envelope.proofs.LayerAnswers.{layering}
use Rattle.layered_envelope.proofs.GivenLayers.{low, over, given-places, given-elements}

-- the counts of the items at places are those of the isotopologue there
counts_from-is : (ls : List Listing) → All (λ l. IsWeights l.element.weights) ls → (chosen ps : List ℕ) →
    ArePlaces (his_of ls) ps → counts_from ls chosen ps ≡ chosen ++ concat (counts_at (elements_of ls) ps)
unfolding counts_at
counts_from-is [] ok chosen [] are = sym (append-nil chosen)
counts_from-is [] ok chosen (p ∷ ps) are = absurd are
counts_from-is (l ∷ ls) ok chosen [] are = absurd are
counts_from-is (l ∷ ls) ok chosen (p ∷ ps) are =
    let here : IsWeights l.element.weights = All-head (λ l. IsWeights l.element.weights) l ls ok in
    let items : AreFirstItems l = first_items l here in
    let few : p < length (items_of l) = omega (arith, are.0, length-map (items_of l) (λ i. i.hi)) in
    let c : List ℕ = get_or (map (λ i. i.counts) (items_of l)) p [] in
    let rest : List ℕ = concat (counts_at (elements_of ls) ps) in
    let same : get_or (map (λ i. i.counts) (items_of l)) p [] ≡ get_or (ordered_counts l.element) p [] =
    ap (λ xs. get_or xs p []) items.counts
    ∙ get_or-take (length (items_of l)) (ordered_counts l.element) p [] few in
    counts_from-is ls (All-tail (λ l. IsWeights l.element.weights) l ls ok) (chosen ++ c) ps are.1
    ∙ append_assoc chosen c rest
    ∙ ap (λ xs. chosen ++ (xs ++ rest)) same

flat_map_same : (f g : List ℕ → List ℕ) (xs : List (List ℕ)) → All (λ x. f x ≡ g x) xs →
    flat_map f xs ≡ flat_map g xs
flat_map_same f g [] all = refl
flat_map_same f g (x ∷ xs) all =
    ap (λ ys. ys ++ flat_map f xs) (All-head (λ x. f x ≡ g x) x xs all)
    ∙ ap (λ ys. g x ++ ys) (flat_map_same f g xs (All-tail (λ x. f x ≡ g x) x xs all))

module _ (lists : List Listing) (modes : List ℕ) (are : AreLists lists modes) where
  counts_all : (members : List (List ℕ)) → All (ArePlaces (his_of lists)) members →
      flat_map (counts_from lists []) members ≡ end_to_end (elements_of lists) members
  counts_all members places =
      flat_map_same (counts_from lists []) (λ ps. concat (counts_at (elements_of lists) ps)) members
      (All-weaker (ArePlaces (his_of lists))
      (λ ps. counts_from lists [] ps ≡ concat (counts_at (elements_of lists) ps))
      (λ ps is. counts_from-is lists (weights_of lists modes are) [] ps is) members places)

  rows_all : (start : ℕ) (members : List (List ℕ)) (rows : List MemberRow) → All (ArePlaces (his_of lists)) members →
      AreRowsBy (counts_from lists []) (λ ps. fold lower certainty (bounds_at (los_of lists) ps))
      (λ ps. fold upper certainty (bounds_at (his_of lists) ps)) start members rows →
      AreRows (elements_of lists) start members rows
  rows_all start [] [] places by = tt
  rows_all start [] (row ∷ rows) places by = absurd by
  rows_all start (ps ∷ members) [] places by = absurd by
  rows_all start (ps ∷ members) (row ∷ rows) places by =
      let es : List Element = elements_of lists in
      let is : ArePlaces (his_of lists) ps = All-head (ArePlaces (his_of lists)) ps members places in
      let many : length (counts_from lists [] ps) ≡ length (concat (counts_at es ps)) =
      ap length (counts_from-is lists (weights_of lists modes are) [] ps is) in (
        record {
          there = by.0.there;
          lo_is = by.0.lo_is ∙ lo-at lists modes are ps is;
          hi_is = by.0.hi_is ∙ hi-at lists modes are ps is;
        },
        rows_all (start + length (concat (counts_at es ps))) members rows
            (All-tail (ArePlaces (his_of lists)) ps members places) (rw many at by.1),
      )

module _ (lists : List Listing) (modes : List ℕ) (hi given : ℕ) (layers : AreLayers lists modes hi given)
    (seen : Layering) (view : layering (elements_of lists) given ≡ seen) (some : 1 ≤ seen.given) where
  abbrev t : ℕ
  t = hi / 2 ^ given

  small : All (λ l. l.threshold ≤ t) lists
  small = low lists modes hi given layers seen view some

  below : t < fold upper certainty modes
  below = over lists modes hi given layers seen view some

  -- what the cutoffs of the threshold are made from
  pub gathered-some : All (λ b. 1 ≤ b) modes
  gathered-some = rw layers.lists_are.modes_are (modes-some (elements_of lists) layers.lists_are.elements.weights)

  pub gathered-most : All (λ b. b ≤ certainty) modes
  gathered-most = rw layers.lists_are.modes_are (modes-most (elements_of lists) layers.lists_are.elements.weights)

  pub gathered-small : t ≤ certainty
  gathered-small = omega (arith, below, fold-upper-most modes certainty (omega arith) gathered-most)

  pub gathered-cutoffs : (cutoffs : List ℕ) → AreCutoffs t modes cutoffs →
      AreCutoffs t (firsts (his_of lists)) cutoffs
  gathered-cutoffs cutoffs are =
      subst (λ ms. AreCutoffs t ms cutoffs) (walk-modes lists modes layers.lists_are t small below) are

  pub gathered-above : (x : ℕ) → x ≡ certainty → t < fold upper x (firsts (his_of lists))
  gathered-above x is =
      rw is (subst (λ ms. t < fold upper certainty ms) (walk-modes lists modes layers.lists_are t small below) below)

  -- what is gathered are all members
  module _ (old new : Gathering) (y x : ℕ) (y_is : y ≡ certainty) (x_is : x ≡ certainty)
      (all : GathersAll t y x lists old new) (chosen : old.chosen.items ≡ []) (none : old.counts.items ≡ []) where
    members_are : above upper t certainty (his_of lists) ≡ last_places seen
    members_are =
        walk-layer lists modes layers.lists_are t small below
        ∙ given-places lists modes hi given layers seen view some

    places : All (ArePlaces (his_of lists)) (above upper t certainty (his_of lists))
    places =
        subst (All (ArePlaces (his_of lists))) (sym (walk-layer lists modes layers.lists_are t small below))
        (walk-places lists modes layers.lists_are t small below)

    pub gathered-counts : new.counts.items ≡ end_to_end seen.elements (last_places seen)
    gathered-counts =
        let is = rw (chosen, none, x_is) at all.gathered.counts_are in
        is
        ∙ counts_all lists modes layers.lists_are (above upper t certainty (his_of lists)) places
        ∙ ap (end_to_end (elements_of lists)) members_are
        ∙ ap (λ es. end_to_end es (last_places seen)) (given-elements lists modes hi given layers seen view some)

    pub gathered-rows : old.rows.items ≡ [] → AreRows seen.elements 0 (last_places seen) new.rows.items
    gathered-rows empty =
        let by = rw (chosen, none, y_is, x_is) at all.gathered.are_rows in
        let rows : new.rows.items ≡ all.gathered.more = rw empty at all.gathered.rows_are in
        subst (λ es. AreRows es 0 (last_places seen) new.rows.items)
        (given-elements lists modes hi given layers seen view some)
        (subst (λ ms. AreRows (elements_of lists) 0 ms new.rows.items) members_are
        (rw rows (rows_all lists modes layers.lists_are 0 (above upper t certainty (his_of lists)) all.gathered.more
        places by)))
