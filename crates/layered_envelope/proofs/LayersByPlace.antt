-- A layer by places has the isotopologues of the layer, each once.
use Rattle.std.proofs.Common.{◌≡◌, ℕ, zero, suc, ◌+◌, ◌*◌, ◌<◌, Bool, true, false, ltb, List, [], ◌∷◌, ◌++◌, map}
use Rattle.std.proofs.Common.{length, get_or, fold, refl, sym, ◌∙◌, ap, arith, ⊎_elim, All}
use Rattle.std.specs.Prelude.{flat_map, filter}
use Rattle.std.specs.List.{range_with_len}
use Rattle.std.specs.List.Sorted.{IsPermutation}
use Rattle.std.proofs.lemmas.Bool.{cases_Bool}
use Rattle.std.proofs.lemmas.List.{map-append, length-map, get_or-map}
use Rattle.std.proofs.lemmas.List.Elements.{All-nil, All-cons, All-map, All-weaker, All-head, All-tail}
use Rattle.std.proofs.lemmas.List.Folds.{flat_map-map}
use Rattle.multinomial_bounds.proofs.CompositionLemmas.{All-flat_map, All-range}
use Rattle.multinomial_bounds.specs.Bounds.{certainty, floor_of, ceiling_of, product_of}
use Rattle.multinomial_bounds.specs.Path.{bound_of}
use Rattle.multinomial_bounds.specs.Isotopologue.{Element, bounds_of}
use Rattle.multinomial_bounds.specs.Compositions.{counts_of, choices, isotopologues_of}
use Rattle.isotopologue_sets.specs.Layers.{lo_of, hi_of, layer}
use Rattle.sorted_lists.specs.SortedLists.{sorted_by}
use Rattle.sub_isotopologues.specs.SubIsotopologues.{stands_before}
use Rattle.layered_envelope.specs.ChosenPlaces.{bounds_at, ArePlaces, above}
use Rattle.layered_envelope.specs.PlacedLayers.{ordered_counts, counts_at, all_places, layer_places}
use Rattle.layered_envelope.specs.Walks.{lower, upper}
use Rattle.layered_envelope.proofs.ChoicesInOrder.{above-filter, flat_map_agree}
use Rattle.layered_envelope.proofs.Rearranged.{Rearranged, joined, unmoved, IsPermutation-from, Rearranged-map}
use Rattle.layered_envelope.proofs.Rearranged.{Rearranged-filter, Rearranged-flat_map, Rearranged-sorted_by}
use Rattle.layered_envelope.proofs.Rearranged.{flat_map_each}

map_flat_map : {A B C : Type 0} (f : B → C) (g : A → List B) (xs : List A) →
    map f (flat_map g xs) ≡ flat_map (λ x. map f (g x)) xs
map_flat_map f g [] = refl
map_flat_map f g (x ∷ xs) = map-append f (g x) (flat_map g xs) ∙ ap (λ ys. map f (g x) ++ ys) (map_flat_map f g xs)

pub map_map : {A B C : Type 0} (f : B → C) (g : A → B) (xs : List A) → map f (map g xs) ≡ map (λ x. f (g x)) xs
map_map f g [] = refl
map_map f g (x ∷ xs) = ap (λ ys. f (g x) ∷ ys) (map_map f g xs)

map_filter : {X Y : Type 0} (f : X → Y) (p : Y → Bool) (xs : List X) →
    map f (filter (λ x. p (f x)) xs) ≡ filter p (map f xs)
map_filter f p [] = refl
map_filter f p (x ∷ xs) =
    ⊎_elim
    (λ (t : p (f x) ≡ true). rw t (ap (λ ys. f x ∷ ys) (map_filter f p xs)))
    (λ (t : p (f x) ≡ false). rw t (map_filter f p xs))
    (cases_Bool (p (f x)))

filter_each : {X : Type 0} (p q : X → Bool) (xs : List X) → All (λ x. p x ≡ q x) xs → filter p xs ≡ filter q xs
filter_each p q [] all = refl
filter_each p q (x ∷ xs) all =
    let here : p x ≡ q x = All-head (λ x. p x ≡ q x) x xs all in
    let rest : filter p xs ≡ filter q xs = filter_each p q xs (All-tail (λ x. p x ≡ q x) x xs all) in
    rw (here, rest) refl

-- the members of a list by their places
map_places : {X : Type 0} (xs : List X) (d : X) → map (λ p. get_or xs p d) (range_with_len 0 (length xs)) ≡ xs
map_places [] d = refl
map_places {X} (x ∷ xs) d =
    ap (λ ys. x ∷ ys) (shifted 0 (length xs) ∙ map_places xs d)
  where
    shifted : (a n : ℕ) →
        map (λ p. get_or (x ∷ xs) p d) (range_with_len (a + 1) n) ≡ map (λ p. get_or xs p d) (range_with_len a n)
    shifted a zero = refl
    shifted a (suc n) =
        let one : a + 1 ≡ suc a = omega arith in
        ap (λ (k : ℕ). get_or (x ∷ xs) k d ∷ map (λ p. get_or (x ∷ xs) p d) (range_with_len (a + 1 + 1) n)) one
        ∙ ap (λ ys. get_or xs a d ∷ ys) (shifted (a + 1) n)

-- The isotopologues at all places are all choices of ordered counts.
counts_at-all_places : (es : List Element) → map (counts_at es) (all_places es) ≡ choices (map ordered_counts es)
unfolding counts_at all_places choices
counts_at-all_places [] = refl
counts_at-all_places (e ∷ es) =
    let ordered : List (List ℕ) = ordered_counts e in
    map_flat_map (counts_at (e ∷ es)) (λ p. map (λ more. p ∷ more) (all_places es)) (range_with_len 0 (length ordered))
    ∙ flat_map_agree _ (λ p. map (λ more. get_or ordered p [] ∷ more) (choices (map ordered_counts es)))
    (range_with_len 0 (length ordered))
    (λ p.
    map_map (counts_at (e ∷ es)) (λ more. p ∷ more) (all_places es)
    ∙ sym (map_map (λ more. get_or ordered p [] ∷ more) (counts_at es) (all_places es))
    ∙ ap (map (λ more. get_or ordered p [] ∷ more)) (counts_at-all_places es))
    ∙ sym (flat_map-map (λ c. map (λ more. c ∷ more) (choices (map ordered_counts es))) (λ p. get_or ordered p [])
    (range_with_len 0 (length ordered)))
    ∙ ap (flat_map (λ c. map (λ more. c ∷ more) (choices (map ordered_counts es)))) (map_places ordered [])

choices-ordered : (es : List Element) →
    Rearranged (List (List ℕ)) (choices (map counts_of es)) (choices (map ordered_counts es))
unfolding choices ordered_counts
choices-ordered [] = unmoved ([] ∷ [])
choices-ordered (e ∷ es) =
    joined
    (Rearranged-flat_map (λ c. map (λ more. c ∷ more) (choices (map counts_of es)))
    (Rearranged-sorted_by (stands_before e.weights) (counts_of e)))
    (flat_map_each (λ c. map (λ more. c ∷ more) (choices (map counts_of es)))
    (λ c. map (λ more. c ∷ more) (choices (map ordered_counts es))) (sorted_by (stands_before e.weights) (counts_of e))
    (λ c. Rearranged-map (λ more. c ∷ more) (choices-ordered es)))

pub layer-rearranged : (es : List Element) (t : ℕ) →
    Rearranged (List (List ℕ)) (layer es t) (map (counts_at es) (layer_places es t))
unfolding layer layer_places isotopologues_of
layer-rearranged es t =
    let above : List (List ℕ) → Bool = λ i. ltb t (hi_of es i) in
    let same : map (counts_at es) (filter (λ places. above (counts_at es places)) (all_places es))
    ≡ filter above (choices (map ordered_counts es)) =
    map_filter (counts_at es) above (all_places es) ∙ ap (filter above) (counts_at-all_places es) in
    rw same (Rearranged-filter above (choices-ordered es))

-- Each place of the layer once: the isotopologues there are those of the layer.
pub layer-IsPermutation : (es : List Element) (t : ℕ) →
    IsPermutation (layer es t) (map (counts_at es) (layer_places es t))
layer-IsPermutation es t = IsPermutation-from (layer-rearranged es t)

-- the bounds of each element's counts in their order
unfoldable pub all_bounds : (ℕ → ℕ → ℕ) → List Element → List (List ℕ)
all_bounds round es = map (λ e. map (bound_of round e.weights) (ordered_counts e)) es

bounds_of-counts_at : (round : ℕ → ℕ → ℕ) (es : List Element) (ps : List ℕ) → ArePlaces (all_bounds round es) ps →
    bounds_of round es (counts_at es ps) ≡ bounds_at (all_bounds round es) ps
unfolding bounds_of counts_at all_bounds
bounds_of-counts_at round [] ps are = refl
bounds_of-counts_at round (e ∷ es) [] are = refl
bounds_of-counts_at round (e ∷ es) (p ∷ ps) are =
    let within : p < length (ordered_counts e) = rw length-map at are.0 in
    ap (λ (b : ℕ). b ∷ bounds_of round es (counts_at es ps))
    (sym (get_or-map (bound_of round e.weights) (ordered_counts e) p [] 0 within))
    ∙ ap (λ bs. get_or (map (bound_of round e.weights) (ordered_counts e)) p 0 ∷ bs)
    (bounds_of-counts_at round es ps are.1)

pub lo_of-counts_at : (es : List Element) (ps : List ℕ) → ArePlaces (all_bounds floor_of es) ps →
    lo_of es (counts_at es ps) ≡ fold lower certainty (bounds_at (all_bounds floor_of es) ps)
unfolding product_of lower
lo_of-counts_at es ps are =
    ap (fold (λ product bound. floor_of (product * bound) certainty) certainty) (bounds_of-counts_at floor_of es ps are)

pub hi_of-counts_at : (es : List Element) (ps : List ℕ) → ArePlaces (all_bounds ceiling_of es) ps →
    hi_of es (counts_at es ps) ≡ fold upper certainty (bounds_at (all_bounds ceiling_of es) ps)
unfolding product_of upper
hi_of-counts_at es ps are =
    ap (fold (λ product bound. ceiling_of (product * bound) certainty) certainty)
    (bounds_of-counts_at ceiling_of es ps are)

-- places of all isotopologues are places of the lists of bounds
places_of_choices : (ls : List (List ℕ)) → All (ArePlaces ls) (choices (map (λ l. range_with_len 0 (length l)) ls))
unfolding choices
places_of_choices [] = All-cons (ArePlaces []) [] [] tt (All-nil (ArePlaces []))
places_of_choices (l ∷ ls) =
    let others = choices (map (λ l. range_with_len 0 (length l)) ls) in
    All-flat_map (ArePlaces (l ∷ ls)) (λ p. map (λ more. p ∷ more) others) (range_with_len 0 (length l))
    (All-range (λ p. All (ArePlaces (l ∷ ls)) (map (λ more. p ∷ more) others)) (length l)
    (λ p within.
    All-map (ArePlaces (l ∷ ls)) (λ more. p ∷ more) others
    (All-weaker (ArePlaces ls) (λ more. ArePlaces (l ∷ ls) (p ∷ more)) (λ more are. (within, are)) others
    (places_of_choices ls))))

all_places-is : (round : ℕ → ℕ → ℕ) (es : List Element) →
    choices (map (λ l. range_with_len 0 (length l)) (all_bounds round es)) ≡ all_places es
unfolding all_places all_bounds
all_places-is round es = ap choices (ranges es)
  where
    ranges : (es : List Element) →
        map (λ l. range_with_len 0 (length l)) (map (λ e. map (bound_of round e.weights) (ordered_counts e)) es)
        ≡ map (λ e. range_with_len 0 (length (ordered_counts e))) es
    ranges [] = refl
    ranges (e ∷ es) =
        ap (λ (n : ℕ). range_with_len 0 n ∷ map (λ l. range_with_len 0 (length l))
        (map (λ e. map (bound_of round e.weights) (ordered_counts e)) es))
        (length-map (ordered_counts e) (bound_of round e.weights))
        ∙ ap (λ xs. range_with_len 0 (length (ordered_counts e)) ∷ xs) (ranges es)

pub all_places-ArePlaces : (round : ℕ → ℕ → ℕ) (es : List Element) →
    All (ArePlaces (all_bounds round es)) (all_places es)
all_places-ArePlaces round es =
    rw (all_places-is round es) at (places_of_choices (all_bounds round es))

-- The layer by places is what the walk over the whole lists goes over.
pub layer_places-above : (es : List Element) (t : ℕ) →
    layer_places es t ≡ above upper t certainty (all_bounds ceiling_of es)
unfolding layer_places
layer_places-above es t =
    filter_each (λ ps. ltb t (hi_of es (counts_at es ps)))
    (λ ps. ltb t (fold upper certainty (bounds_at (all_bounds ceiling_of es) ps))) (all_places es)
    (All-weaker (ArePlaces (all_bounds ceiling_of es))
    (λ ps. ltb t (hi_of es (counts_at es ps)) ≡ ltb t (fold upper certainty (bounds_at (all_bounds ceiling_of es) ps)))
    (λ ps are. ap (ltb t) (hi_of-counts_at es ps are)) (all_places es) (all_places-ArePlaces ceiling_of es))
    ∙ ap (filter (λ ps. ltb t (fold upper certainty (bounds_at (all_bounds ceiling_of es) ps))))
    (sym (all_places-is ceiling_of es))
    ∙ sym (above-filter upper t (all_bounds ceiling_of es) certainty)
