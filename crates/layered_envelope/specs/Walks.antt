-- For proofs alone: a walk over the choices of one place in each list, kept as a stack.
use Rattle.std.specs.Prelude.{ℕ, ◌≡◌, ◌*◌, ◌<◌, List, [], length, map, take, fold, slice_index, slice_index_or}
use Rattle.multinomial_bounds.specs.Bounds.{certainty, floor_of, ceiling_of}
use Rattle.sub_isotopologues.specs.Listings.{Listing, items_of}
use Rattle.layered_envelope.specs.ChosenPlaces.{bounds_at, above_after}
use Rattle.layered_envelope.specs.declared.walk.Choice.{Choice}

-- a product of two probabilities, rounded down and up
unfoldable pub lower : ℕ → ℕ → ℕ
lower x y = floor_of (x * y) certainty

unfoldable pub upper : ℕ → ℕ → ℕ
upper x y = ceiling_of (x * y) certainty

-- the lower and the upper bounds of the items of each list
abbrev pub los_of : List Listing → List (List ℕ)
los_of lists = map (λ l. map (λ i. i.lo) (items_of l)) lists

abbrev pub his_of : List Listing → List (List ℕ)
his_of lists = map (λ l. map (λ i. i.hi) (items_of l)) lists

-- the product of the bounds that the first k places have
unfoldable pub reached : (ℕ → ℕ → ℕ) → List (List ℕ) → List ℕ → ℕ → ℕ
reached f lists places k = fold f certainty (bounds_at (take k lists) (take k places))

abbrev pub places_of : List Choice → List ℕ
places_of choices = map (λ c. c.place) choices

abbrev pub lowers_of : List Choice → List ℕ
lowers_of choices = map (λ c. c.before.lo) choices

abbrev pub uppers_of : List Choice → List ℕ
uppers_of choices = map (λ c. c.before.hi) choices

-- the first n choices are places of their lists, and keep the products of those before them
pub record IsWalkTo (n : ℕ) (lists : List Listing) (choices : List Choice) : Type 0 where
  pub within : (k : ℕ) → k < n → slice_index (places_of choices) k < length (slice_index_or (his_of lists) k [])
  pub lowers : (k : ℕ) → k < n → slice_index (lowers_of choices) k ≡ reached lower (los_of lists) (places_of choices) k
  pub uppers : (k : ℕ) → k < n → slice_index (uppers_of choices) k ≡ reached upper (his_of lists) (places_of choices) k

-- all of them
pub record IsWalk (lists : List Listing) (choices : List Choice) : Type 0 where
  pub as_many : length choices ≡ length lists
  pub walk : IsWalkTo (length lists) lists choices

-- the choices above a threshold that come after these
abbrev pub left_after : ℕ → List Listing → List ℕ → List (List ℕ)
left_after threshold lists places = above_after upper threshold certainty (his_of lists) places
