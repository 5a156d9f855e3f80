-- The layer given last: its members, and walks over them.
use Rattle.std.proofs.Common.{◌≡◌, ℕ, ◌/◌, ◌^◌, ◌<◌, ◌≤◌, true, false, Option, List, map, length, replicate, fold, refl, sym, ◌∙◌, ap, arith, All}
use Rattle.std.specs.Prelude.{Contains, ◌↔◌}
use Rattle.std.specs.List.Sorted.{IsPermutation}
use Rattle.std.proofs.lemmas.Bool.{false≢true}
use Rattle.multinomial_bounds.specs.Bounds.{certainty}
use Rattle.multinomial_bounds.specs.Isotopologue.{Element}
use Rattle.isotopologue_sets.specs.Layers.{layer}
use Rattle.sub_isotopologues.specs.Listings.{Listing}
use Rattle.layered_envelope.specs.declared.walk.Choice.{Choice}
use Rattle.layered_envelope.specs.ChosenPlaces.{ArePlaces, AllFall}
use Rattle.layered_envelope.specs.PlacedLayers.{counts_at, layer_places}
use Rattle.layered_envelope.specs.Walks.{upper, his_of, places_of, IsWalk}
use Rattle.layered_envelope.specs.CountedWalks.{hi_at}
use Rattle.layered_envelope.specs.LayerLists.{elements_of, AreLayers}
use Rattle.layered_envelope.specs.Layerings.{Layering, last_threshold, last_places}
use Rattle.layered_envelope.specs.LayerWalks.{LayerWalk, walk_of, after_last, left, AreMembers}
use Rattle.layered_envelope.proofs.Thresholds.{last_is, last-low, last-below}
use Rattle.layered_envelope.proofs.LayersByPlace.{layer-IsPermutation}
use Rattle.layered_envelope.proofs.ListedLayers.{walk-falls}
use Rattle.layered_envelope.proofs.PlacesOfLists.{member-from, member-places, member-above}
use Rattle.layered_envelope.proofs.LayerAnswers.{layering}

abbrev pub walk_over : List Element → ℕ → Option (List ℕ) → LayerWalk
walk_over elements threshold last = record { elements = elements; threshold = threshold; last = last }

module _ (lists : List Listing) (modes : List ℕ) (hi given : ℕ) (layers : AreLayers lists modes hi given)
    (seen : Layering)
    (view : layering (elements_of lists) given ≡ seen) (some : 1 ≤ seen.given) where
  given-some : 0 < given
  given-some = let same : given ≡ seen.given = ap (λ l. l.given) view in omega arith

  pub low : All (λ l. l.threshold ≤ hi / 2 ^ given) lists
  low = last-low lists modes hi given layers given-some

  pub over : hi / 2 ^ given < fold upper certainty modes
  over = last-below lists modes hi given layers given-some

  pub given-falls : AllFall (his_of lists)
  given-falls = walk-falls lists modes layers.lists_are (hi / 2 ^ given) low over

  given-threshold : hi / 2 ^ given ≡ last_threshold seen
  given-threshold =
      last_is lists modes hi given layers given-some ∙ ap last_threshold view

  pub given-places : layer_places (elements_of lists) (hi / 2 ^ given) ≡ last_places seen
  given-places =
      ap (layer_places (elements_of lists)) (last_is lists modes hi given layers given-some) ∙ ap last_places view

  pub given-elements : elements_of lists ≡ seen.elements
  given-elements = ap (λ l. l.elements) view

  pub given-members : IsPermutation (layer seen.elements (last_threshold seen))
      (map (counts_at seen.elements) (last_places seen))
  given-members = layer-IsPermutation seen.elements (last_threshold seen)

  -- the members by their places
  pub given-ArePlaces : (ps : List ℕ) → Contains (last_places seen) ps → ArePlaces (his_of lists) ps
  given-ArePlaces ps member =
      member-places lists modes layers.lists_are (hi / 2 ^ given) low over ps (rw (← given-places) at member)

  pub given-member : (ps : List ℕ) →
      (ArePlaces (his_of lists) ps × (hi / 2 ^ given < hi_at lists ps)) ↔ Contains (last_places seen) ps
  given-member ps = (
    λ both. rw (← given-places) (member-from lists modes layers.lists_are (hi / 2 ^ given) low over ps both.0 both.1),
    λ member. (
      given-ArePlaces ps member,
      member-above lists modes layers.lists_are (hi / 2 ^ given) low over ps (rw (← given-places) at member),
    ),
  )

  -- a walk that begins, and one that goes on
  pub members-begin : (choices : List Choice) → IsWalk lists choices → places_of choices ≡ replicate (length lists) 0 →
      AreMembers lists modes (hi / 2 ^ given) choices false
  members-begin choices walk first = record {
    lists_are = layers.lists_are;
    low = low;
    over = over;
    walk = walk;
    first = λ _. first;
  }

  pub members-go_on : (choices : List Choice) → IsWalk lists choices →
      AreMembers lists modes (hi / 2 ^ given) choices true
  members-go_on choices walk = record {
    lists_are = layers.lists_are;
    low = low;
    over = over;
    walk = walk;
    first = λ none. absurd (false≢true (sym none));
  }

  pub seen-walk : (last : Option (List ℕ)) → walk_over (elements_of lists) (hi / 2 ^ given) last ≡ walk_of seen last
  seen-walk last =
      ap (λ es. walk_over es (hi / 2 ^ given) last) given-elements
      ∙ ap (λ (t : ℕ). walk_over seen.elements t last) given-threshold

pub left-walk_of : (seen : Layering) (last : Option (List ℕ)) →
    left (walk_of seen last) ≡ after_last (last_places seen) last
unfolding left
left-walk_of seen last = refl
