-- What a walk over the members of a layer has left, before and after a step.
use Rattle.std.proofs.Common.{◌≡◌, ℕ, zero, suc, ◌<◌, ◌≤◌, Bool, true, false, Option, List, [], ◌∷◌, map, length}
use Rattle.std.proofs.Common.{get_or, Some, None, refl, sym, ◌∙◌, ap, arith, All}
use Rattle.std.specs.Prelude.{Contains, IfSome, IsSome}
use Rattle.std.proofs.lemmas.Bool.{false≢true}
use Rattle.std.proofs.lemmas.List.{get_or-map, get_or-take, length-map}
use Rattle.multinomial_bounds.specs.Bounds.{certainty}
use Rattle.multinomial_bounds.specs.Isotopologue.{Element}
use Rattle.isotopologue_sets.specs.Layers.{lo_of, hi_of}
use Rattle.sub_isotopologues.specs.SubIsotopologues.{SubIsotopologue}
use Rattle.sub_isotopologues.specs.Listings.{Listing, items_of}
use Rattle.sub_isotopologues.proofs.ListParts.{contains_before_filter}
use Rattle.layered_envelope.specs.declared.walk.Choice.{Choice}
use Rattle.layered_envelope.specs.ChosenPlaces.{ArePlaces, AllFall, firsts}
use Rattle.layered_envelope.specs.PlacedLayers.{ordered_counts, counts_at, layer_places}
use Rattle.layered_envelope.specs.Walks.{lower, upper, los_of, his_of, reached, places_of, IsWalk, left_after}
use Rattle.layered_envelope.specs.CountedWalks.{lo_at, hi_at}
use Rattle.layered_envelope.specs.LayerLists.{elements_of, AreLists}
use Rattle.layered_envelope.specs.LayerWalks.{LayerWalk, comes_after, after_last, left, AreMembers, seen_walk}
use Rattle.layered_envelope.proofs.KeptLists.{length-ArePlaces}
use Rattle.layered_envelope.proofs.StartedLists.{modes-most}
use Rattle.layered_envelope.proofs.ListedLayers.{walk-falls, walk-modes, lo-at, hi-at, weights_of}
use Rattle.layered_envelope.proofs.ItemsInOrder.{AreFirstItems, first_items}
use Rattle.layered_envelope.proofs.CountedSteps.{first_place, lo_whole, hi_whole}
use Rattle.layered_envelope.proofs.PlacesOfLists.{walk-ArePlaces, walk-is, left-is, his-many, ArePlaces-at}

module _ (lists : List Listing) (modes : List ℕ) (t : ℕ) (choices : List Choice) (given : Bool)
    (m : AreMembers lists modes t choices given) where
  pub members-fall : AllFall (his_of lists)
  members-fall = walk-falls lists modes m.lists_are t m.low m.over

  pub members-modes : modes ≡ firsts (his_of lists)
  members-modes = walk-modes lists modes m.lists_are t m.low m.over

  pub members-most : All (λ b. b ≤ certainty) modes
  members-most = rw m.lists_are.modes_are (modes-most (elements_of lists) m.lists_are.elements.weights)

  left-after : (cs : List Choice) → IsWalk lists cs →
      left_after t lists (places_of cs) ≡ left (seen_walk lists t cs true)
  unfolding left
  left-after cs walk = left-is lists modes m.lists_are t m.low m.over (places_of cs) (walk-ArePlaces lists cs walk)

  pub first-left : given ≡ false →
      left (seen_walk lists t choices false) ≡ places_of choices ∷ left (seen_walk lists t choices true)
  unfolding left
  first-left none =
      sym (walk-is lists modes m.lists_are t m.low m.over)
      ∙ first_place t lists (places_of choices) modes members-fall members-modes m.over (m.first none)
      ∙ ap (λ xs. places_of choices ∷ xs) (left-after choices m.walk)

  pub next-left : (new : List Choice) → IsWalk lists new →
      left_after t lists (places_of choices) ≡ places_of new ∷ left_after t lists (places_of new) →
      left (seen_walk lists t choices true) ≡ places_of new ∷ left (seen_walk lists t new true)
  next-left new walk next =
      sym (left-after choices m.walk) ∙ next ∙ ap (λ xs. places_of new ∷ xs) (left-after new walk)

  pub end-left : left_after t lists (places_of choices) ≡ [] → left (seen_walk lists t choices true) ≡ []
  end-left none = sym (left-after choices m.walk) ∙ none

  -- after a step
  pub stepped : (new : List Choice) → IsWalk lists new → given ≡ true → AreMembers lists modes t new given
  stepped new walk is = record {
    lists_are = m.lists_are;
    low = m.low;
    over = m.over;
    walk = walk;
    first = λ none. absurd (false≢true (sym none ∙ is));
  }

  pub begun : AreMembers lists modes t choices true
  begun = record {
    lists_are = m.lists_are;
    low = m.low;
    over = m.over;
    walk = m.walk;
    first = λ none. absurd (false≢true (sym none));
  }

  -- the bounds of the member given last
  pub lo_last : (n : ℕ) → n ≡ length choices →
      reached lower (los_of lists) (places_of choices) n
      ≡ lo_of (elements_of lists) (counts_at (elements_of lists) (places_of choices))
  unfolding lo_at
  lo_last n all =
      lo_whole lists choices m.walk n all
      ∙ lo-at lists modes m.lists_are (places_of choices) (walk-ArePlaces lists choices m.walk)

  pub hi_last : (n : ℕ) → n ≡ length choices →
      reached upper (his_of lists) (places_of choices) n
      ≡ hi_of (elements_of lists) (counts_at (elements_of lists) (places_of choices))
  unfolding hi_at
  hi_last n all =
      hi_whole lists choices m.walk n all
      ∙ hi-at lists modes m.lists_are (places_of choices) (walk-ArePlaces lists choices m.walk)

-- a member that is left is one of the layer
pub left-member : (w : LayerWalk) (place : List ℕ) (rest : List (List ℕ)) → left w ≡ place ∷ rest →
    Contains (layer_places w.elements w.threshold) place
unfolding left
left-member w place rest split =
    let has : Contains (after_last (layer_places w.elements w.threshold) w.last) place =
    rw split (0, omega arith, refl) in
    inside w.last has
  where
    inside : (last : Option (List ℕ)) → Contains (after_last (layer_places w.elements w.threshold) last) place →
        Contains (layer_places w.elements w.threshold) place
    inside None has = has
    inside (Some given) has = contains_before_filter (comes_after given) (layer_places w.elements w.threshold) place has

-- the counts of an element at a member's places
counts_at-place : (es : List Element) (ps : List ℕ) (k : ℕ) (d : List ℕ) (e : Element) → length ps ≡ length es →
    k < length es →
    get_or (counts_at es ps) k d ≡ get_or (ordered_counts (get_or es k e)) (get_or ps k 0) []
unfolding counts_at
counts_at-place [] ps k d e same within = absurd (omega arith)
counts_at-place (x ∷ es) [] k d e same within = absurd (omega arith)
counts_at-place (x ∷ es) (p ∷ ps) zero d e same within = refl
counts_at-place (x ∷ es) (p ∷ ps) (suc k) d e same within = counts_at-place es ps k d e (omega arith) (omega arith)

pub counts-at : (lists : List Listing) (modes : List ℕ) → AreLists lists modes →
    (ps : List ℕ) → ArePlaces (his_of lists) ps →
    (k p : ℕ) (counts : List ℕ) → k < length lists → p ≡ get_or ps k 0 →
    ((l : Listing) (i : SubIsotopologue) → counts ≡ (get_or (items_of (get_or lists k l)) p i).counts) →
    counts ≡ get_or (counts_at (elements_of lists) ps) k counts
counts-at lists modes are ps places k p counts within is each =
    let l : Listing = record {
      element = record { weights = []; atoms = 0 };
      before = 0;
      after = [];
      threshold =
          0;
      given = 0;
    } in
    let i : SubIsotopologue = record { counts = []; lo = 0; hi = 0 } in
    let items : AreFirstItems (get_or lists k l) =
    first_items (get_or lists k l) (weights_of lists modes are k l within) in
    let n : length (elements_of lists) ≡ length lists = length-map lists (λ (x : Listing). x.element) in
    let his : get_or (his_of lists) k [] ≡ map (λ i. i.hi) (items_of (get_or lists k l)) =
    get_or-map (λ (x : Listing). map (λ i. i.hi) (items_of x)) lists k l [] within in
    let few : p < length (items_of (get_or lists k l)) =
    rw (is, ← length-map (items_of (get_or lists k l)) (λ i. i.hi), ← his)
    (ArePlaces-at (his_of lists) ps k places (omega (arith, his-many lists))) in
    each l i
    ∙ sym (get_or-map (λ (i : SubIsotopologue). i.counts) (items_of (get_or lists k l)) p i [] few)
    ∙ ap (λ xs. get_or xs p []) items.counts
    ∙ get_or-take (length (items_of (get_or lists k l))) (ordered_counts (get_or lists k l).element) p [] few
    ∙ ap (λ (q : ℕ). get_or (ordered_counts (get_or lists k l).element) q []) is
    ∙ ap (λ e. get_or (ordered_counts e) (get_or ps k 0) [])
    (sym (get_or-map (λ (x : Listing). x.element) lists k l l.element within))
    ∙ sym (counts_at-place (elements_of lists) ps k counts l.element
    (omega (arith, n, his-many lists, length-ArePlaces (his_of lists) ps places)) (omega (arith, n)))

module _ (lists : List Listing) (modes : List ℕ) (t : ℕ) (choices : List Choice) (given : Bool)
    (m : AreMembers lists modes t choices given) (n r : ℕ) (all : n ≡ length choices) where
  pub lo_seen : r ≡ reached lower (los_of lists) (places_of choices) n →
      IfSome (seen_walk lists t choices given).last
      (λ places. r ≡ lo_of (elements_of lists) (counts_at (elements_of lists) places))
  lo_seen is =
      elim given as (λ b.
      IfSome (seen_walk lists t choices b).last
      (λ places. r ≡ lo_of (elements_of lists) (counts_at (elements_of lists) places)))
      [ true ↦ is ∙ lo_last lists modes t choices given m n all | false ↦ tt ]

  pub hi_seen : r ≡ reached upper (his_of lists) (places_of choices) n →
      IfSome (seen_walk lists t choices given).last
      (λ places. r ≡ hi_of (elements_of lists) (counts_at (elements_of lists) places))
  hi_seen is =
      elim given as (λ b.
      IfSome (seen_walk lists t choices b).last
      (λ places. r ≡ hi_of (elements_of lists) (counts_at (elements_of lists) places)))
      [ true ↦ is ∙ hi_last lists modes t choices given m n all | false ↦ tt ]

-- a fact of the member given last, where one was given
pub last-is : (lists : List Listing) (t : ℕ) (choices : List Choice) (given : Bool) (w : LayerWalk) (P : List ℕ →
    Type 0) →
    seen_walk lists t choices given ≡ w → IsSome w.last → IfSome w.last P → P (places_of choices)
last-is lists t choices true w P view some holds =
    let is : w.last ≡ Some (places_of choices) = ap (λ x. x.last) (sym view) in
    rw is at holds
last-is lists t choices false w P view some holds =
    let is : w.last ≡ None = ap (λ x. x.last) (sym view) in
    absurd (false≢true (rw is at some))
