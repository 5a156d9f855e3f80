-- Lists that were lowered one after another.
use Rattle.std.proofs.Common.{◌≡◌, ◌≢◌, ℕ, ◌+◌, ◌<◌, ◌≤◌, true, ltb, List, [], ◌∷◌, map, length, get_or, set, drop}
use Rattle.std.proofs.Common.{fold, Result, Ok, Err, refl, sym, ◌∙◌, ap, subst, arith, ⊎_elim, All}
use Rattle.std.specs.Prelude.{sum_by}
use Rattle.std.proofs.lemmas.Bool.{cases_lt, lt-ltb}
use Rattle.std.proofs.lemmas.List.{length-map, get_or-map, map-set, set-get_or, get_or-set_same, get_or-set_other, get_or_default}
use Rattle.std.proofs.lemmas.List.Elements.{All-weaker, All-set}
use Rattle.multinomial_bounds.specs.Bounds.{certainty}
use Rattle.multinomial_bounds.specs.Isotopologue.{Element}
use Rattle.multinomial_bounds.proofs.SumLemmas.{sum_by_same_each}
use Rattle.isotopologue_sets.specs.Layers.{lo_of, hi_of, lo_total, layer}
use Rattle.reader_answers.specs.Answers.{Gives}
use Rattle.sub_isotopologues.specs.Listings.{Listing, lowered, items_of, max_sub_isotopologues}
use Rattle.layered_envelope.specs.declared.fault.LayerFault.{LayerFault}
use Rattle.layered_envelope.specs.declared.fault.LayerFault.TheVariants.{TooMany, Memory}
use Rattle.layered_envelope.specs.declared.layer_end.LayerEnd.{LayerEnd}
use Rattle.layered_envelope.specs.declared.layer_end.TheConstants.{MAX_MEMBERS}
use Rattle.layered_envelope.specs.ChosenPlaces.{ArePlaces}
use Rattle.layered_envelope.specs.PlacedLayers.{counts_at, layer_places}
use Rattle.layered_envelope.specs.Walks.{upper, his_of}
use Rattle.layered_envelope.specs.CountedWalks.{lo_at, hi_at, places_above, counted_walk}
use Rattle.layered_envelope.specs.Layerings.{is_memory, end_within_limit}
use Rattle.layered_envelope.specs.LayerLists.{elements_of, modes_of, kinds_of, AreLists, IsTooLong, IsAnyTooLong}
use Rattle.layered_envelope.specs.Cutoffs.{IsCutoff, AreCutoffs}
use Rattle.layered_envelope.proofs.StartedLists.{modes-length}
use Rattle.layered_envelope.proofs.ListedLayers.{sum_by-layer_places, length-layer_places, too_long, walk-layer, walk-places, hi-at, lo-at}

-- lists of the same kinds
module _ (xs ys : List Listing) (same : kinds_of xs ≡ kinds_of ys) where
  pub kinds-length : length xs ≡ length ys
  kinds-length = sym (length-map xs (λ l. lowered l 0)) ∙ ap length same ∙ length-map ys (λ l. lowered l 0)

  pub kinds-at : (k t : ℕ) (d : Listing) → k < length xs → lowered (get_or xs k d) t ≡ lowered (get_or ys k d) t
  kinds-at k t d within =
      ap (λ l. lowered l t)
      (sym (get_or-map (λ l. lowered l 0) xs k d (lowered d 0) within)
      ∙ ap (λ ls. get_or ls k (lowered d 0)) same
      ∙ get_or-map (λ l. lowered l 0) ys k d (lowered d 0) (omega (arith, kinds-length)))

  elements_kinds : (ls : List Listing) → elements_of ls ≡ map (λ l. l.element) (kinds_of ls)
  elements_kinds [] = refl
  elements_kinds (l ∷ ls) = ap (λ es. l.element ∷ es) (elements_kinds ls)

  pub kinds-elements : elements_of xs ≡ elements_of ys
  kinds-elements = elements_kinds xs ∙ ap (map (λ l. l.element)) same ∙ sym (elements_kinds ys)

  pub AreLists-kinds : (modes : List ℕ) → AreLists ys modes → AreLists xs modes
  AreLists-kinds modes are = record {
    elements = rw kinds-elements are.elements;
    modes_are = are.modes_are ∙ ap modes_of (sym kinds-elements);
    before = λ k d within. ap (λ l. l.before) (kinds-at k 0 d within) ∙ are.before k d (omega (arith, kinds-length));
    after = λ k d within. ap (λ l. l.after) (kinds-at k 0 d within) ∙ are.after k d (omega (arith, kinds-length));
  }

-- one list more is lowered
module _ (old now : List Listing) (t place : ℕ) (l item : Listing) (kinds : kinds_of now ≡ kinds_of old)
    (within : place < length now) (is : item ≡ get_or now place item) (made : l ≡ lowered item t) where
  set_kinds : kinds_of (set now place l) ≡ kinds_of old
  set_kinds =
      map-set (λ l. lowered l 0) now place l
      ∙ ap (λ x. set (kinds_of now) place x) (ap (λ x. lowered x 0) made)
      ∙ ap (λ x. set (kinds_of now) place x)
      (sym (get_or-map (λ l. lowered l 0) now place item (lowered item 0) within ∙ ap (λ x. lowered x 0) (sym is)))
      ∙ set-get_or (kinds_of now) place (lowered item 0)
      ∙ kinds

  same_or_l : (P : Listing → Type 0) (k : ℕ) (d : Listing) → k < length now → P l → (k ≢ place → P (get_or now k d)) →
      P (get_or (set now place l) k d)
  same_or_l P k d inside here other =
      ⊎_elim {C = P (get_or (set now place l) k d)}
      (λ (below : k < place).
      let apart : k ≢ place = omega arith in
      subst P (sym (get_or-set_other now place k l d apart)) (other apart))
      (λ (from : place ≤ k).
      ⊎_elim {C = P (get_or (set now place l) k d)}
      (λ (above : place < k).
      let apart : k ≢ place = omega arith in
      subst P (sym (get_or-set_other now place k l d apart)) (other apart))
      (λ (to : k ≤ place).
      let same : place ≡ k = omega arith in
      subst P (sym (ap (λ (j : ℕ). get_or (set now place l) j d) (sym same)
      ∙ get_or-set_same now place l d within)) here)
      (cases_lt place k))
      (cases_lt k place)

  pub lowered_kinds : kinds_of (set now place l) ≡ kinds_of old
  lowered_kinds = set_kinds

  l_threshold : l.threshold ≡ t
  l_threshold = ap (λ x. x.threshold) made

  pub lowered_at_least : All (λ x. t ≤ x.threshold) now → All (λ x. t ≤ x.threshold) (set now place l)
  lowered_at_least all = All-set (λ x. t ≤ x.threshold) now place l (omega (arith, l_threshold)) all

  pub lowered_at_most : All (λ x. t ≤ x.threshold) now →
      ((k : ℕ) (d : Listing) → k < length old → (get_or now k d).threshold ≤ (get_or old k d).threshold) →
      (k : ℕ) (d : Listing) → k < length old → (get_or (set now place l) k d).threshold ≤ (get_or old k d).threshold
  lowered_at_most all below k d inside =
      let n : length now ≡ length old = kinds-length now old kinds in
      same_or_l (λ x. x.threshold ≤ (get_or old k d).threshold) k d (omega (arith, n))
      (omega (arith, l_threshold, all k d (omega (arith, n)), below k d inside))
      (λ apart. below k d inside)

  pub lowered_to : ((k : ℕ) (d : Listing) → k < place → (get_or now k d).threshold ≤ t) →
      (k : ℕ) (d : Listing) → k < place + 1 → (get_or (set now place l) k d).threshold ≤ t
  lowered_to below k d inside =
      same_or_l (λ x. x.threshold ≤ t) k d (omega arith) (omega (arith, l_threshold))
      (λ apart. below k d (omega arith))

-- the cutoff of a list that is lowered next
pub cutoff_at : (old now : List Listing) (t place : ℕ) (item : Listing) (cutoffs : List ℕ) →
    kinds_of now ≡ kinds_of old → place < length now → item ≡ get_or now place item →
    AreLists old (modes_of (elements_of old)) → AreCutoffs t (modes_of (elements_of old)) cutoffs →
    IsCutoff t item.after (get_or cutoffs place 0)
cutoff_at old now t place item cutoffs kinds within is are left =
    let inside : place < length old = omega (arith, kinds-length now old kinds) in
    let same : item.after ≡ drop (place + 1) (modes_of (elements_of old)) =
    ap (λ (l : Listing). l.after) is
    ∙ ap (λ (l : Listing). l.after) (kinds-at now old kinds place 0 item within)
    ∙ are.after place item inside in
    subst (λ bs. IsCutoff t bs (get_or cutoffs place 0)) (sym same)
    (left.at place (omega (arith, inside, modes-length old (modes_of (elements_of old)) refl)))

-- a list that is too long is one of the old ones
pub any_too_long : (old now : List Listing) (t place : ℕ) (item : Listing) (fault : LayerFault) →
    kinds_of now ≡ kinds_of old →
    place < length now → item ≡ get_or now place item → IsTooLong (lowered item t) fault → IsAnyTooLong t old fault
any_too_long old now t place item Memory kinds within is long = tt
any_too_long old now t place item (TooMany told) kinds within is long = (
  long.0,
  (
    place,
    omega (arith, kinds-length now old kinds),
    λ d.
        let here : lowered item t ≡ lowered (get_or old place d) t =
        ap (λ x. lowered x t) (is ∙ get_or_default now place item d within) ∙ kinds-at now old kinds place t d within in
        subst (λ x. max_sub_isotopologues < length (items_of x)) here long.1,
  ),
)

module _ (lists : List Listing) (modes : List ℕ) (are : AreLists lists modes) (t : ℕ) where
  -- the fault of a list is that of the layer
  pub fault-gives : (fault : LayerFault) → IsAnyTooLong t lists fault →
      Gives {A = LayerEnd} is_memory (Err fault) (end_within_limit (elements_of lists) t)
  fault-gives Memory long = tt
  fault-gives (TooMany told) long =
      let d : Listing = record {
        element = record { weights = []; atoms = 0 };
        before = 0;
        after = [];
        threshold =
            0;
        given = 0;
      } in
      let many : length (items_of (lowered (get_or lists long.1.0 d) t)) ≤ length (layer (elements_of lists) t) =
      too_long lists modes are t long.1.0 (length (items_of (lowered (get_or lists long.1.0 d) t))) d long.1.1
      (omega arith) in
      let over : ltb MAX_MEMBERS (length (layer (elements_of lists) t)) ≡ true =
      lt-ltb MAX_MEMBERS (length (layer (elements_of lists) t)) (omega (arith, long.1.2 d)) in
      rw (over, long.0) refl

  -- what the walk counts is what the layer has
  pub counted-layer : All (λ l. l.threshold ≤ t) lists → t < fold upper certainty modes →
      counted_walk t lists ≡ end_within_limit (elements_of lists) t
  unfolding places_above lo_at hi_at
  counted-layer low over =
      let es : List Element = elements_of lists in
      let walk : places_above t lists ≡ layer_places es t = walk-layer lists modes are t low over in
      let places : All (ArePlaces (his_of lists)) (layer_places es t) = walk-places lists modes are t low over in
      let n : length (places_above t lists) ≡ length (layer es t) = ap length walk ∙ length-layer_places es t in
      let lo : sum_by (lo_at lists) (places_above t lists) ≡ lo_total es (layer es t) =
      ap (sum_by (lo_at lists)) walk
      ∙ sum_by_same_each (lo_at lists) (λ ps. lo_of es (counts_at es ps)) (layer_places es t)
      (All-weaker (ArePlaces (his_of lists)) (λ ps. lo_at lists ps ≡ lo_of es (counts_at es ps))
      (λ ps is. lo-at lists modes are ps is) (layer_places es t) places)
      ∙ sum_by-layer_places es t (lo_of es) in
      let hi : sum_by (hi_at lists) (places_above t lists) ≡ sum_by (hi_of es) (layer es t) =
      ap (sum_by (hi_at lists)) walk
      ∙ sum_by_same_each (hi_at lists) (λ ps. hi_of es (counts_at es ps)) (layer_places es t)
      (All-weaker (ArePlaces (his_of lists)) (λ ps. hi_at lists ps ≡ hi_of es (counts_at es ps))
      (λ ps is. hi-at lists modes are ps is) (layer_places es t) places)
      ∙ sum_by-layer_places es t (hi_of es) in
      rw (n, lo, hi) refl

-- an answer that is the expected one
pub Gives-same : {A : Type 0} (r expected : Result A LayerFault) → expected ≡ r → Gives is_memory r expected
Gives-same (Ok x) expected same = same
Gives-same (Err Memory) expected same = tt
Gives-same (Err (TooMany t)) expected same = same
