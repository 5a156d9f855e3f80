-- The lists kept for a threshold have the layer of it: the walk over them goes over its members, each once.
use Rattle.std.proofs.Common.{◌≡◌, ℕ, zero, suc, ◌+◌, ◌<◌, ◌≤◌, List, [], ◌∷◌, map, length, get_or, take, drop, fold, refl, sym, ◌∙◌, ap, arith, ⊎_elim, All}
use Rattle.std.specs.Prelude.{sum_by}
use Rattle.std.proofs.Math.Nat.{le_trans}
use Rattle.std.proofs.lemmas.Bool.{cases_lt}
use Rattle.std.proofs.lemmas.List.{length-map, get_or-map, get_or-take, take-map, drop-map}
use Rattle.std.proofs.lemmas.List.Elements.{All-head, All-tail, All-map}
use Rattle.std.proofs.lemmas.List.Sorted.{sum_by-IsPermutation, length_permutation}
use Rattle.multinomial_bounds.specs.Bounds.{certainty, floor_of, ceiling_of}
use Rattle.multinomial_bounds.specs.Weight.{IsWeights}
use Rattle.multinomial_bounds.specs.Mode.{mode_bound}
use Rattle.multinomial_bounds.specs.Path.{bound_of}
use Rattle.multinomial_bounds.specs.Isotopologue.{Element}
use Rattle.multinomial_bounds.proofs.SumLemmas.{sum_by-map}
use Rattle.isotopologue_sets.specs.Layers.{lo_of, hi_of, layer}
use Rattle.sub_isotopologues.specs.Listings.{Listing, items_of, lowered}
use Rattle.layered_envelope.specs.ChosenPlaces.{bounds_at, ArePlaces, firsts, AllFall, above}
use Rattle.layered_envelope.specs.PlacedLayers.{ordered_counts, counts_at, layer_places}
use Rattle.layered_envelope.specs.Walks.{lower, upper, los_of, his_of}
use Rattle.layered_envelope.specs.LayerLists.{elements_of, modes_of, AreLists}
use Rattle.layered_envelope.proofs.RoundedProducts.{upper-rises}
use Rattle.layered_envelope.proofs.KeptLists.{AreKept, above-kept, firsts-kept, AllFall-kept, ArePlaces-above, as_many_above, bounds_at-front}
use Rattle.layered_envelope.proofs.LayersByPlace.{all_bounds, lo_of-counts_at, hi_of-counts_at, layer-IsPermutation, layer_places-above}
use Rattle.layered_envelope.proofs.ItemsInOrder.{AreFirstItems, first_items, first-hi, Falls-ordered}

-- the whole lists
module _ (es : List Element) where
  pub AllFall-all : All (λ e. IsWeights e.weights) es → AllFall (all_bounds ceiling_of es)
  unfolding all_bounds
  AllFall-all ok = falls es ok
    where
      falls : (es : List Element) → All (λ e. IsWeights e.weights) es →
          AllFall (map (λ e. map (bound_of ceiling_of e.weights) (ordered_counts e)) es)
      falls [] ok = tt
      falls (e ∷ es) ok = (
        Falls-ordered e (All-head (λ x. IsWeights x.weights) e es ok),
        falls es (All-tail (λ x. IsWeights x.weights) e es ok),
      )

  pub firsts-all : All (λ e. IsWeights e.weights) es → firsts (all_bounds ceiling_of es) ≡ modes_of es
  unfolding all_bounds
  firsts-all ok = modes es ok
    where
      modes : (es : List Element) → All (λ e. IsWeights e.weights) es →
          firsts (map (λ e. map (bound_of ceiling_of e.weights) (ordered_counts e)) es) ≡ modes_of es
      modes [] ok = refl
      modes (e ∷ es) ok =
          let here : IsWeights e.weights = All-head (λ x. IsWeights x.weights) e es ok in
          let n : length (map (bound_of ceiling_of e.weights) (ordered_counts e)) ≡ length (ordered_counts e) =
          length-map (ordered_counts e) (bound_of ceiling_of e.weights) in
          let first : get_or (map (bound_of ceiling_of e.weights) (ordered_counts e)) 0 0
          ≡ bound_of ceiling_of e.weights (get_or (ordered_counts e) 0 []) =
          get_or-map (bound_of ceiling_of e.weights) (ordered_counts e) 0 [] 0
          (omega (arith, (Falls-ordered e here).some, n)) in
          ap (λ (b : ℕ). b ∷ firsts (map (λ e. map (bound_of ceiling_of e.weights) (ordered_counts e)) es)) (first
          ∙ first-hi e here [])
          ∙ ap (λ bs. mode_bound ceiling_of e.weights e.atoms ∷ bs)
          (modes es (All-tail (λ x. IsWeights x.weights) e es ok))

  pub length-all : (round : ℕ → ℕ → ℕ) → length (all_bounds round es) ≡ length es
  unfolding all_bounds
  length-all round = length-map es (λ e. map (bound_of round e.weights) (ordered_counts e))

  pub all-at : (round : ℕ → ℕ → ℕ) (k : ℕ) (d : Element) → k < length es →
      get_or (all_bounds round es) k [] ≡ map (bound_of round (get_or es k d).weights) (ordered_counts (get_or es k d))
  unfolding all_bounds
  all-at round k d within = get_or-map (λ e. map (bound_of round e.weights) (ordered_counts e)) es k d [] within

-- the lists are kept as far as the threshold needs
module _ (t : ℕ) where
  kept-from : (ls : List Listing) (modes : List ℕ) (b : ℕ) → All (λ l. IsWeights l.element.weights) ls →
      modes ≡ modes_of (elements_of ls) → t < fold upper b modes → All (λ l. l.threshold ≤ t) ls →
      ((k : ℕ) (d : Listing) → k < length ls → (get_or ls k d).before ≡ fold upper b (take k modes)) →
      ((k : ℕ) (d : Listing) → k < length ls → (get_or ls k d).after ≡ drop (k + 1) modes) →
      AreKept upper t b (his_of ls) (map (λ e. map (bound_of ceiling_of e.weights) (ordered_counts e)) (elements_of ls))
  unfolding all_bounds
  kept-from [] modes b ok are over low before after = tt
  kept-from (l ∷ ls) [] b ok are over low before after =
      let n : 0 ≡ suc (length (modes_of (elements_of ls))) = ap length are in absurd (omega arith)
  kept-from (l ∷ ls) (m ∷ ms) b ok are over low before after =
      let here : IsWeights l.element.weights = All-head (λ l. IsWeights l.element.weights) l ls ok in
      let rest : All (λ l. IsWeights l.element.weights) ls = All-tail (λ l. IsWeights l.element.weights) l ls ok in
      let items : AreFirstItems l = first_items l here in
      let all : List ℕ = map (bound_of ceiling_of l.element.weights) (ordered_counts l.element) in
      let n_all : length all ≡ length (ordered_counts l.element) =
      length-map (ordered_counts l.element) (bound_of ceiling_of l.element.weights) in
      let n_items : length (map (λ i. i.hi) (items_of l)) ≡ length (items_of l) = length-map (items_of l) (λ i. i.hi) in
      let mode : m ≡ mode_bound ceiling_of l.element.weights l.element.atoms = ap (λ xs. get_or xs 0 0) are in
      let others : ms ≡ modes_of (elements_of ls) = ap (drop 1) are in
      let first : get_or all 0 0 ≡ m =
      get_or-map (bound_of ceiling_of l.element.weights) (ordered_counts l.element) 0 [] 0
      (omega (arith, (Falls-ordered l.element here).some, n_all))
      ∙ first-hi l.element here [] ∙ sym mode in
      let b_is : l.before ≡ b = before 0 l (omega arith) in
      let a_is : l.after ≡ ms = after 0 l (omega arith) in
      let threshold : l.threshold ≤ t = All-head (λ l. l.threshold ≤ t) l ls low in
      let firsts_are : firsts (map (λ e. map (bound_of ceiling_of e.weights) (ordered_counts e)) (elements_of ls))
      ≡ ms =
      firsts_of ls rest ∙ sym others in
      let at = λ (p : ℕ) (within : p < length (ordered_counts l.element)).
      get_or-map (bound_of ceiling_of l.element.weights) (ordered_counts l.element) p [] 0 within in
      let out : (p : ℕ) → length (items_of l) ≤ p → p < length (ordered_counts l.element) →
      fold upper (upper b (get_or all p 0)) ms ≤ t =
      λ p from to. rw (at p to, ← b_is, ← a_is) (le_trans (items.left_out p from to) threshold) in
      let some : 0 < length (items_of l) =
      ⊎_elim
      (λ (h : 0 < length (items_of l)). h)
      (λ (h : length (items_of l) ≤ 0).
      let under : fold upper (upper b (get_or all 0 0)) ms ≤ t =
      out 0 h (omega (arith, (Falls-ordered l.element here).some, n_all)) in
      let under' : fold upper (upper b m) ms ≤ t = rw first at under in
      absurd (omega (arith, under', over)))
      (cases_lt 0 (length (items_of l))) in (
        record {
          some = omega arith;
          few = omega (arith, items.few);
          front = λ p within. ap (λ xs. get_or xs p 0) items.his
              ∙ get_or-take (length (items_of l)) all p 0 (omega arith);
          left_out = λ p from to. rw firsts_are (out p (omega arith) (omega arith));
        },
        rw first (kept-from ls ms (upper b m) rest others over (All-tail (λ l. l.threshold ≤ t) l ls low)
            (λ k d within. before (suc k) d (omega arith))
            (λ k d within.
            after (suc k) d (omega arith)
            ∙ ap (λ (n : ℕ). drop n (m ∷ ms)) (let e : suc k + 1 ≡ suc (k + 1) = omega arith in e))),
      )
    where
      firsts_of : (ls : List Listing) → All (λ l. IsWeights l.element.weights) ls →
          firsts (map (λ e. map (bound_of ceiling_of e.weights) (ordered_counts e)) (elements_of ls))
          ≡ modes_of (elements_of ls)
      firsts_of ls ok = firsts-all (elements_of ls) (All-map (λ e. IsWeights e.weights) (λ l. l.element) ls ok)

All-from_map : {X Y : Type 0} (P : Y → Type 0) (f : X → Y) (xs : List X) → All P (map f xs) → All (λ x. P (f x)) xs
All-from_map P f xs all k d within =
    let same : get_or (map f xs) k (f d) ≡ f (get_or xs k d) = get_or-map f xs k d (f d) within in
    rw same at (all k (f d) (rw length-map within))

-- places depend on how long the lists are
pub ArePlaces-same : (ls ls' : List (List ℕ)) (ps : List ℕ) → map length ls ≡ map length ls' → ArePlaces ls ps →
    ArePlaces ls' ps
ArePlaces-same [] [] ps same are = are
ArePlaces-same [] (l ∷ ls) ps same are = let n : 0 ≡ suc (length (map length ls)) =
    ap length same in absurd (omega arith)
ArePlaces-same (l ∷ ls) [] ps same are = let n : suc (length (map length ls)) ≡ 0 =
    ap length same in absurd (omega arith)
ArePlaces-same (l ∷ ls) (k ∷ ks) [] same are = are
ArePlaces-same (l ∷ ls) (k ∷ ks) (p ∷ ps) same are =
    let here : length l ≡ length k = ap (λ xs. get_or xs 0 0) same in
    (rw here at are.0, ArePlaces-same ls ks ps (ap (drop 1) same) are.1)

ArePlaces-longer : (ls ls' : List (List ℕ)) (ps : List ℕ) → length ls ≡ length ls' →
    ((k : ℕ) → k < length ls → length (get_or ls k []) ≤ length (get_or ls' k [])) → ArePlaces ls ps → ArePlaces ls' ps
ArePlaces-longer [] [] ps same longer are = are
ArePlaces-longer [] (l ∷ ls) ps same longer are = absurd (omega arith)
ArePlaces-longer (l ∷ ls) [] ps same longer are = absurd (omega arith)
ArePlaces-longer (l ∷ ls) (k ∷ ks) [] same longer are = are
ArePlaces-longer (l ∷ ls) (k ∷ ks) (p ∷ ps) same longer are = (
  omega (arith, are.0, longer 0 (omega arith)),
  ArePlaces-longer ls ks ps (omega arith) (λ i h. longer (suc i) (omega arith)) are.1,
)

pub lengths_same : (ls : List Listing) → map length (his_of ls) ≡ map length (los_of ls)
lengths_same [] = refl
lengths_same (l ∷ ls) =
    ap (λ (n : ℕ). n ∷ map length (his_of ls))
    (length-map (items_of l) (λ i. i.hi) ∙ sym (length-map (items_of l) (λ i. i.lo)))
    ∙ ap (λ ns. length (map (λ i. i.lo) (items_of l)) ∷ ns) (lengths_same ls)

lengths_all : (r s : ℕ → ℕ → ℕ) (es : List Element) → map length (all_bounds r es) ≡ map length (all_bounds s es)
unfolding all_bounds
lengths_all r s [] = refl
lengths_all r s (e ∷ es) =
    ap (λ (n : ℕ). n ∷ map length (map (λ e. map (bound_of r e.weights) (ordered_counts e)) es))
    (length-map (ordered_counts e) (bound_of r e.weights) ∙ sym (length-map (ordered_counts e) (bound_of s e.weights)))
    ∙ ap (λ ns. length (map (bound_of s e.weights) (ordered_counts e)) ∷ ns) (lengths_all r s es)

-- a number over the members of a layer, by places
pub sum_by-layer_places : (es : List Element) (t : ℕ) (g : List (List ℕ) → ℕ) →
    sum_by (λ ps. g (counts_at es ps)) (layer_places es t) ≡ sum_by g (layer es t)
sum_by-layer_places es t g =
    sym (sum_by-map g (counts_at es) (layer_places es t))
    ∙ sum_by-IsPermutation g (layer es t) (map (counts_at es) (layer_places es t)) (layer-IsPermutation es t)

pub length-layer_places : (es : List Element) (t : ℕ) → length (layer_places es t) ≡ length (layer es t)
length-layer_places es t =
    sym (length-map (layer_places es t) (counts_at es))
    ∙ length_permutation (layer es t) (map (counts_at es) (layer_places es t)) (layer-IsPermutation es t)

module _ (lists : List Listing) (modes : List ℕ) (are : AreLists lists modes) where
  some_list : (k : ℕ) → k < length lists → Listing
  some_list k within =
      get_or lists k (record {
        element = record { weights = []; atoms = 0 };
        before = 0;
        after = [];
        threshold =
            0;
        given = 0;
      })

  pub weights_of : All (λ l. IsWeights l.element.weights) lists
  weights_of = All-from_map (λ e. IsWeights e.weights) (λ l. l.element) lists are.elements.weights

  pub his_many : length (his_of lists) ≡ length lists
  his_many = length-map lists (λ l. map (λ i. i.hi) (items_of l))

  pub los_many : length (los_of lists) ≡ length lists
  los_many = length-map lists (λ l. map (λ i. i.lo) (items_of l))

  all_many : (round : ℕ → ℕ → ℕ) → length (all_bounds round (elements_of lists)) ≡ length lists
  all_many round = length-all (elements_of lists) round ∙ length-map lists (λ l. l.element)

  module _ (k : ℕ) (within : k < length lists) (d : Listing) where
    element_at : get_or (elements_of lists) k d.element ≡ (get_or lists k d).element
    element_at = get_or-map (λ l. l.element) lists k d d.element within

    all_at : (round : ℕ → ℕ → ℕ) → get_or (all_bounds round (elements_of lists)) k []
        ≡ map (bound_of round (get_or lists k d).element.weights) (ordered_counts (get_or lists k d).element)
    all_at round =
        all-at (elements_of lists) round k d.element (rw length-map within)
        ∙ ap (λ e. map (bound_of round e.weights) (ordered_counts e)) element_at

    his_at : get_or (his_of lists) k [] ≡ map (λ i. i.hi) (items_of (get_or lists k d))
    his_at = get_or-map (λ l. map (λ i. i.hi) (items_of l)) lists k d [] within

    los_at : get_or (los_of lists) k [] ≡ map (λ i. i.lo) (items_of (get_or lists k d))
    los_at = get_or-map (λ l. map (λ i. i.lo) (items_of l)) lists k d [] within

    items_at : AreFirstItems (get_or lists k d)
    items_at = first_items (get_or lists k d) (weights_of k d within)

    front_his : (p : ℕ) → p < length (get_or (his_of lists) k []) →
        get_or (get_or (his_of lists) k []) p 0 ≡ get_or (get_or (all_bounds ceiling_of (elements_of lists)) k []) p 0
    front_his p inside =
        let few : p < length (items_of (get_or lists k d)) = rw (his_at, length-map) at inside in
        ap (λ xs. get_or xs p 0) (his_at ∙ items_at.his)
        ∙ get_or-take (length (items_of (get_or lists k d))) _ p 0 few
        ∙ ap (λ xs. get_or xs p 0) (sym (all_at ceiling_of))

    front_los : (p : ℕ) → p < length (get_or (los_of lists) k []) →
        get_or (get_or (los_of lists) k []) p 0 ≡ get_or (get_or (all_bounds floor_of (elements_of lists)) k []) p 0
    front_los p inside =
        let few : p < length (items_of (get_or lists k d)) = rw (los_at, length-map) at inside in
        ap (λ xs. get_or xs p 0) (los_at ∙ items_at.los)
        ∙ get_or-take (length (items_of (get_or lists k d))) _ p 0 few
        ∙ ap (λ xs. get_or xs p 0) (sym (all_at floor_of))

  -- a list that is too long for a threshold: so is its layer
  pub too_long : (t k m : ℕ) (d : Listing) → k < length lists → m ≤ length (items_of (lowered (get_or lists k d) t)) →
      m ≤ length (layer (elements_of lists) t)
  too_long t k m d within long =
      let es : List Element = elements_of lists in
      let l : Listing = lowered (get_or lists k d) t in
      let items : AreFirstItems l = first_items l (weights_of k d within) in
      let all : List (List ℕ) = all_bounds ceiling_of es in
      let first : firsts all ≡ modes = firsts-all es are.elements.weights ∙ sym are.modes_are in
      let inside : k < length all = omega (arith, all_many ceiling_of) in
      let n : length (get_or all k []) ≡ length (ordered_counts l.element) =
      ap length (all_at k within d ceiling_of)
      ∙ length-map (ordered_counts l.element) (bound_of ceiling_of l.element.weights) in
      let front : fold upper certainty (firsts (take k all)) ≡ l.before =
      ap (fold upper certainty) (sym (take-map (λ (x : List ℕ). get_or x 0 0) k all) ∙ ap (take k) first)
      ∙ sym (are.before k d within) in
      let back : firsts (drop (suc k) all) ≡ l.after =
      sym (drop-map (λ (x : List ℕ). get_or x 0 0) (suc k) all) ∙ ap (drop (suc k)) first
      ∙ ap (λ (i : ℕ). drop i modes) (let e : suc k ≡ k + 1 = omega arith in e)
      ∙ sym (are.after k d within) in
      let whole : m ≤ length (above upper t certainty all) =
      as_many_above upper t upper-rises all certainty k m (AllFall-all es are.elements.weights) inside
      (omega (arith, items.few, n))
      (λ p few.
      let here : get_or (get_or all k []) p 0 ≡ bound_of ceiling_of l.element.weights
      (get_or (ordered_counts l.element) p []) =
      ap (λ xs. get_or xs p 0) (all_at k within d ceiling_of)
      ∙ get_or-map (bound_of ceiling_of l.element.weights) (ordered_counts l.element) p [] 0
      (omega (arith, items.few)) in
      rw (front, back, here) (items.above p (omega arith))) in
      rw (← layer_places-above es t, length-layer_places) at whole

  -- the lists kept for a threshold below the upper bound of the modes
  module _ (t : ℕ) (low : All (λ l. l.threshold ≤ t) lists) (over : t < fold upper certainty modes) where
    kept : AreKept upper t certainty (his_of lists) (all_bounds ceiling_of (elements_of lists))
    unfolding all_bounds
    kept = kept-from t lists modes certainty weights_of are.modes_are over low are.before are.after

    falling : AllFall (all_bounds ceiling_of (elements_of lists))
    falling = AllFall-all (elements_of lists) are.elements.weights

    pub walk-falls : AllFall (his_of lists)
    walk-falls =
        AllFall-kept upper t upper-rises (his_of lists)
        (all_bounds ceiling_of (elements_of lists)) certainty kept falling

    pub walk-modes : modes ≡ firsts (his_of lists)
    walk-modes =
        are.modes_are ∙ sym (firsts-all (elements_of lists) are.elements.weights)
        ∙ sym (firsts-kept upper t upper-rises (his_of lists)
        (all_bounds ceiling_of (elements_of lists)) certainty kept)

    pub walk-layer : above upper t certainty (his_of lists) ≡ layer_places (elements_of lists) t
    walk-layer =
        above-kept upper t upper-rises (his_of lists)
        (all_bounds ceiling_of (elements_of lists)) certainty certainty kept
        falling (omega arith)
        ∙ sym (layer_places-above (elements_of lists) t)

    pub walk-places : All (ArePlaces (his_of lists)) (layer_places (elements_of lists) t)
    walk-places = rw walk-layer at (ArePlaces-above upper t upper-rises (his_of lists) certainty)

  -- the bounds of the isotopologue at places of the lists
  module _ (ps : List ℕ) (are_places : ArePlaces (his_of lists) ps) where
    empty_list : Listing
    empty_list = record {
      element = record { weights = []; atoms = 0 };
      before = 0;
      after = [];
      threshold = 0;
      given =
          0;
    }

    inside_of : (ls : List (List ℕ)) (k p : ℕ) → p < length (get_or ls k []) → k < length ls
    inside_of [] k p within = absurd (omega arith)
    inside_of (l ∷ ls) zero p within = omega arith
    inside_of (l ∷ ls) (suc k) p within = let rest : k < length ls = inside_of ls k p within in omega arith

    hi_bounds : bounds_at (his_of lists) ps ≡ bounds_at (all_bounds ceiling_of (elements_of lists)) ps
    hi_bounds =
        bounds_at-front (his_of lists) (all_bounds ceiling_of (elements_of lists)) ps are_places
        (λ k p within. front_his k (omega (arith, inside_of (his_of lists) k p within, his_many)) empty_list p within)
        (his_many ∙ sym (all_many ceiling_of))

    lo_places : ArePlaces (los_of lists) ps
    lo_places = ArePlaces-same (his_of lists) (los_of lists) ps (lengths_same lists) are_places

    lo_bounds : bounds_at (los_of lists) ps ≡ bounds_at (all_bounds floor_of (elements_of lists)) ps
    lo_bounds =
        bounds_at-front (los_of lists) (all_bounds floor_of (elements_of lists)) ps lo_places
        (λ k p within. front_los k (omega (arith, inside_of (los_of lists) k p within, los_many)) empty_list p within)
        (los_many ∙ sym (all_many floor_of))

    -- places of the kept lists are places of the whole ones
    all_his : ArePlaces (all_bounds ceiling_of (elements_of lists)) ps
    all_his =
        ArePlaces-longer (his_of lists) (all_bounds ceiling_of (elements_of lists)) ps (his_many
        ∙ sym (all_many ceiling_of))
        (λ k within.
        let inside : k < length lists = omega (arith, his_many) in
        rw (his_at k inside empty_list, all_at k inside empty_list ceiling_of, length-map, length-map)
        (items_at k inside empty_list).few) are_places

    pub hi-at : fold upper certainty (bounds_at (his_of lists) ps)
        ≡ hi_of (elements_of lists) (counts_at (elements_of lists) ps)
    hi-at = ap (fold upper certainty) hi_bounds ∙ sym (hi_of-counts_at (elements_of lists) ps all_his)

    pub lo-at : fold lower certainty (bounds_at (los_of lists) ps)
        ≡ lo_of (elements_of lists) (counts_at (elements_of lists) ps)
    lo-at =
        ap (fold lower certainty) lo_bounds
        ∙ sym (lo_of-counts_at (elements_of lists) ps
        (ArePlaces-same (all_bounds ceiling_of (elements_of lists)) (all_bounds floor_of (elements_of lists)) ps
        (lengths_all ceiling_of floor_of (elements_of lists)) all_his))
