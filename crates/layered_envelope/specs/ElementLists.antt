-- For proofs alone: the lists of items that are kept of an element.
use Rattle.std.specs.Prelude.{ℕ, ◌≡◌, ◌<◌, List, [], length, Option, Some, None, slice_index_or}
use Rattle.sub_isotopologues.specs.Listings.{Listing}

-- each list is of the element, and its place is the number of the atoms
abbrev pub AreListsOf : List ℕ → List (Option Listing) → Type 0
AreListsOf weights lists =
    (k : ℕ) (l : Listing) → slice_index_or lists k None ≡ Some l → l.element ≡ record { weights = weights; atoms = k }

-- the place of an element among some, of which the weights are told
abbrev pub IsPlaceOf : List (List ℕ) → List ℕ → ℕ → Type 0
IsPlaceOf elements weights place = (place < length elements) × (slice_index_or elements place [] ≡ weights)
