-- Places of lists, one by one.
use Rattle.std.proofs.Common.{◌≡◌, ℕ, zero, suc, ◌+◌, ◌<◌, ◌≤◌, ltb, Bool, true, List, [], ◌∷◌, ◌++◌, map, length}
use Rattle.std.proofs.Common.{get_or, set, take, fold, refl, sym, ◌∙◌, ap, arith, All}
use Rattle.std.specs.Prelude.{filter, Contains}
use Rattle.std.specs.List.{range_with_len}
use Rattle.std.proofs.lemmas.Bool.{lt-ltb, ltb-true}
use Rattle.std.proofs.lemmas.List.{length-map, map-set, take_more, take_more_set, take_all}
use Rattle.std.proofs.lemmas.List.Elements.{All-contains, filter_passes}
use Rattle.std.proofs.lemmas.List.FromFn.{length-range_with_len, get_or-range_with_len}
use Rattle.multinomial_bounds.specs.Bounds.{certainty}
use Rattle.multinomial_bounds.specs.Compositions.{choices}
use Rattle.multinomial_bounds.proofs.CompositionLemmas.{Contains-map, Contains-flat_map}
use Rattle.sub_isotopologues.specs.Listings.{Listing, items_of}
use Rattle.sub_isotopologues.proofs.ListParts.{contains_filter}
use Rattle.layered_envelope.specs.declared.walk.Choice.{Choice}
use Rattle.layered_envelope.specs.ChosenPlaces.{bounds_at, ArePlaces, above}
use Rattle.layered_envelope.specs.PlacedLayers.{layer_places}
use Rattle.layered_envelope.specs.Walks.{upper, los_of, his_of, places_of, IsWalk, left_after}
use Rattle.layered_envelope.specs.CountedWalks.{hi_at, places_above}
use Rattle.layered_envelope.specs.LayerLists.{elements_of, AreLists}
use Rattle.layered_envelope.specs.LayerWalks.{comes_after}
use Rattle.layered_envelope.proofs.ChoicesInOrder.{above-filter, above_after-filter}
use Rattle.layered_envelope.proofs.ListedLayers.{walk-layer, walk-places}

pub ArePlaces-at : (ls : List (List ℕ)) (ps : List ℕ) (k : ℕ) → ArePlaces ls ps → k < length ls →
    get_or ps k 0 < length (get_or ls k [])
ArePlaces-at [] ps k are within = absurd (omega arith)
ArePlaces-at (l ∷ ls) [] k are within = absurd are
ArePlaces-at (l ∷ ls) (p ∷ ps) zero are within = are.0
ArePlaces-at (l ∷ ls) (p ∷ ps) (suc k) are within = ArePlaces-at ls ps k are.1 (omega arith)

pub ArePlaces-from : (ls : List (List ℕ)) (ps : List ℕ) → length ls ≡ length ps →
    ((k : ℕ) → k < length ls → get_or ps k 0 < length (get_or ls k [])) → ArePlaces ls ps
ArePlaces-from [] [] same each = tt
ArePlaces-from [] (p ∷ ps) same each = absurd (omega arith)
ArePlaces-from (l ∷ ls) [] same each = absurd (omega arith)
ArePlaces-from (l ∷ ls) (p ∷ ps) same each = (
  each 0 (omega arith),
  ArePlaces-from ls ps (omega arith) (λ k within. each (suc k) (omega arith)),
)

pub his-many : (lists : List Listing) → length (his_of lists) ≡ length lists
his-many lists = length-map lists (λ (l : Listing). map (λ i. i.hi) (items_of l))

pub los-many : (lists : List Listing) → length (los_of lists) ≡ length lists
los-many lists = length-map lists (λ (l : Listing). map (λ i. i.lo) (items_of l))

-- a walk has places of its lists
pub walk-ArePlaces : (lists : List Listing) (choices : List Choice) → IsWalk lists choices →
    ArePlaces (his_of lists) (places_of choices)
walk-ArePlaces lists choices walk =
    ArePlaces-from (his_of lists) (places_of choices)
    (omega (arith, his-many lists, length-map choices (λ (c : Choice). c.place), walk.as_many))
    (λ k within. walk.walk.within k (omega (arith, his-many lists)))

-- one more place written
pub places_more : (cs : List Choice) (c : Choice) (k : ℕ) (places : List ℕ) → k < length cs → k < length places →
    c.place ≡ get_or places k 0 → take k (places_of cs) ≡ take k places →
    take (k + 1) (places_of (set cs k c)) ≡ take (k + 1) places
places_more cs c k places within inside is before =
    ap (take (k + 1)) (map-set (λ (c : Choice). c.place) cs k c)
    ∙ take_more_set (places_of cs) k c.place (omega (arith, length-map cs (λ (c : Choice). c.place)))
    ∙ ap (λ xs. xs ++ c.place ∷ []) before
    ∙ ap (λ (p : ℕ). take k places ++ p ∷ []) is
    ∙ sym (take_more places k 0 inside)

pub places_all : (cs : List Choice) (places : List ℕ) (k : ℕ) → length cs ≤ k → length places ≤ k →
    take k (places_of cs) ≡ take k places → places_of cs ≡ places
places_all cs places k first second same =
    sym (take_all k (places_of cs) (omega (arith, length-map cs (λ (c : Choice). c.place))))
    ∙ same ∙ take_all k places second

-- each choice of places is one of all
range-has : (n p : ℕ) → p < n → Contains (range_with_len 0 n) p
range-has n p within = (
  p,
  rw length-range_with_len within,
  get_or-range_with_len 0 n p p within ∙ omega arith,
)

choices_complete : (ls : List (List ℕ)) (ps : List ℕ) → ArePlaces ls ps →
    Contains (choices (map (λ l. range_with_len 0 (length l)) ls)) ps
unfolding choices
choices_complete [] [] are = (0, omega arith, refl)
choices_complete [] (p ∷ ps) are = absurd are
choices_complete (l ∷ ls) [] are = absurd are
choices_complete (l ∷ ls) (p ∷ ps) are =
    let here : Contains (range_with_len 0 (length l)) p = range-has (length l) p are.0 in
    Contains-flat_map (λ item. map (λ more. item ∷ more) (choices (map (λ l. range_with_len 0 (length l)) ls)))
    (range_with_len 0 (length l)) p (p ∷ ps) here.0 here.1 here.2
    (Contains-map (λ more. p ∷ more) (choices (map (λ l. range_with_len 0 (length l)) ls)) ps
    (choices_complete ls ps are.1))

module _ (lists : List Listing) (modes : List ℕ) (are : AreLists lists modes) (t : ℕ)
    (low : All (λ l. l.threshold ≤ t) lists)
    (over : t < fold upper certainty modes) where
  pub walk-is : places_above t lists ≡ layer_places (elements_of lists) t
  unfolding places_above
  walk-is = walk-layer lists modes are t low over

  pub left-is : (ps : List ℕ) → ArePlaces (his_of lists) ps →
      left_after t lists ps ≡ filter (comes_after ps) (layer_places (elements_of lists) t)
  left-is ps are_places =
      above_after-filter upper t (his_of lists) certainty ps are_places
      ∙ ap (filter (comes_after ps)) (walk-layer lists modes are t low over)

  passes : List ℕ → Bool
  passes ps = ltb t (fold upper certainty (bounds_at (his_of lists) ps))

  as_filter : layer_places (elements_of lists) t
      ≡ filter passes (choices (map (λ l. range_with_len 0 (length l)) (his_of lists)))
  unfolding passes
  as_filter = sym (walk-layer lists modes are t low over) ∙ above-filter upper t (his_of lists) certainty

  -- the members of the layer
  pub member-from : (ps : List ℕ) → ArePlaces (his_of lists) ps → t < hi_at lists ps →
      Contains (layer_places (elements_of lists) t) ps
  unfolding hi_at passes
  member-from ps are_places above =
      rw as_filter
      (contains_filter passes (choices (map (λ l. range_with_len 0 (length l)) (his_of lists))) ps
      (lt-ltb t (fold upper certainty (bounds_at (his_of lists) ps)) above)
      (choices_complete (his_of lists) ps are_places))

  pub member-places : (ps : List ℕ) → Contains (layer_places (elements_of lists) t) ps → ArePlaces (his_of lists) ps
  member-places ps member =
      All-contains (ArePlaces (his_of lists)) (layer_places (elements_of lists) t) ps
      (walk-places lists modes are t low over) member

  pub member-above : (ps : List ℕ) → Contains (layer_places (elements_of lists) t) ps → t < hi_at lists ps
  unfolding hi_at passes
  member-above ps member =
      let all : List (List ℕ) = choices (map (λ l. range_with_len 0 (length l)) (his_of lists)) in
      let in_filter : Contains (filter passes all) ps = rw as_filter at member in
      ltb-true t (fold upper certainty (bounds_at (his_of lists) ps))
      (All-contains (λ qs. passes qs ≡ true) (filter passes all) ps (filter_passes passes all) in_filter)
