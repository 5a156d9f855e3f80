-- A walk over the members of a layer, in lexicographic order of their places.
use Rattle.std.specs.Prelude.{ℕ, ◌≡◌, ◌<◌, ◌≤◌, Bool, false, List, Option, Some, None, filter, fold, length, replicate, All, if◌then◌else◌}
use Rattle.std.specs.Ordering.{is_lt, nat_cmp}
use Rattle.std.specs.Cmp.Lexicographic.{slice_cmp}
use Rattle.multinomial_bounds.specs.Bounds.{certainty}
use Rattle.multinomial_bounds.specs.Isotopologue.{Element}
use Rattle.sub_isotopologues.specs.Listings.{Listing}
use Rattle.layered_envelope.specs.declared.walk.Choice.{Choice}
use Rattle.layered_envelope.specs.Walks.{upper, places_of, IsWalk}
use Rattle.layered_envelope.specs.PlacedLayers.{layer_places}
use Rattle.layered_envelope.specs.LayerLists.{elements_of, AreLists}
use Rattle.layered_envelope.specs.Layerings.{Layering, last_threshold}

-- a walk: over the layer of which elements and which threshold it goes, and the places of the member given last
pub record LayerWalk : Type 0 where
  pub elements : List Element
  pub threshold : ℕ
  pub last : Option (List ℕ)

-- the walk over the layer given last that has given this member last, or none yet
abbrev pub walk_of : Layering → Option (List ℕ) → LayerWalk
walk_of l last = record { elements = l.elements; threshold = last_threshold l; last = last }

-- whether places come after others in lexicographic order
abbrev pub comes_after : List ℕ → List ℕ → Bool
comes_after given places = is_lt (slice_cmp nat_cmp given places)

-- those that come after the places given last, or all where none were given
abbrev pub after_last : List (List ℕ) → Option (List ℕ) → List (List ℕ)
after_last list None = list
after_last list (Some given) = filter (comes_after given) list

-- the members that a walk has left, by their places
unfoldable pub left : LayerWalk → List (List ℕ)
left w = after_last (layer_places w.elements w.threshold) w.last

-- For proofs alone: what a walk keeps. The choice is the member given last, and before the first one it is the first.
pub record AreMembers (lists : List Listing) (modes : List ℕ) (threshold : ℕ) (choices : List Choice)
    (has_given : Bool) : Type 0 where
  pub lists_are : AreLists lists modes
  pub low : All (λ l. l.threshold ≤ threshold) lists
  pub over : threshold < fold upper certainty modes
  pub walk : IsWalk lists choices
  pub first : has_given ≡ false → places_of choices ≡ replicate (length lists) 0

-- for proofs alone: the walk that these are seen as
abbrev pub seen_walk : List Listing → ℕ → List Choice → Bool → LayerWalk
seen_walk lists threshold choices has_given =
    record {
      elements = elements_of lists;
      threshold = threshold;
      last = if has_given then Some (places_of choices) else None;
    }
