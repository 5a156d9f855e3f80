-- For proofs alone: the lists of items that layers keep, one of each element.
use Rattle.std.specs.Prelude.{ℕ, ◌≡◌, ◌+◌, ◌-◌, ◌/◌, ◌^◌, ◌<◌, ◌≤◌, List, length, map, take, drop, fold, slice_index_or, All, Ok}
use Rattle.multinomial_bounds.specs.Bounds.{certainty, ceiling_of}
use Rattle.multinomial_bounds.specs.Mode.{mode_bound}
use Rattle.multinomial_bounds.specs.Isotopologue.{Element}
use Rattle.isotopologue_sets.specs.Layers.{AreElements, threshold_at}
use Rattle.sub_isotopologues.specs.Listings.{Listing, lowered, items_of, max_sub_isotopologues}
use Rattle.layered_envelope.specs.declared.fault.LayerFault.{LayerFault}
use Rattle.layered_envelope.specs.declared.fault.LayerFault.TheVariants.{TooMany, Memory}
use Rattle.layered_envelope.specs.Walks.{upper}
use Rattle.layered_envelope.specs.declared.layer_end.LayerEnd.{LayerEnd}
use Rattle.layered_envelope.specs.CountedWalks.{Fits}
use Rattle.layered_envelope.specs.Layerings.{end_within_limit}

-- the elements of the lists
abbrev pub elements_of : List Listing → List Element
elements_of lists = map (λ l. l.element) lists

-- the upper bounds of the elements' modes
abbrev pub modes_of : List Element → List ℕ
modes_of elements = map (λ e. mode_bound ceiling_of e.weights e.atoms) elements

-- The lists are of elements within the limits, and each knows the others: the product of the modes before it, and the
-- modes after it.
pub record AreLists (lists : List Listing) (modes : List ℕ) : Type 0 where
  pub elements : AreElements (elements_of lists)
  pub modes_are : modes ≡ modes_of (elements_of lists)
  pub before : (k : ℕ) (d : Listing) → k < length lists →
      (slice_index_or lists k d).before ≡ fold upper certainty (take k modes)
  pub after : (k : ℕ) (d : Listing) → k < length lists → (slice_index_or lists k d).after ≡ drop (k + 1) modes

-- the lists without their thresholds
abbrev pub kinds_of : List Listing → List Listing
kinds_of lists = map (λ l. lowered l 0) lists

-- What layers keep: such lists, lowered at least to the threshold of the layer given last and at most to the next one.
pub record AreLayers (lists : List Listing) (modes : List ℕ) (mode_hi given : ℕ) : Type 0 where
  pub lists_are : AreLists lists modes
  pub mode_is : mode_hi ≡ fold upper certainty modes
  pub few : given ≤ 60
  pub at_most : All (λ l. threshold_at (elements_of lists) given ≤ l.threshold) lists
  pub at_least : 0 < given → All (λ l. l.threshold ≤ threshold_at (elements_of lists) (given - 1)) lists

-- lists of which the first n were begun again beside the others
pub record AreStarted (n : ℕ) (lists : List Listing) (elements : List Element) (modes : List ℕ) : Type 0 where
  pub elements_are : elements_of lists ≡ elements
  pub before : (k : ℕ) (d : Listing) → k < n → (slice_index_or lists k d).before ≡ fold upper certainty (take k modes)
  pub after : (k : ℕ) (d : Listing) → k < n → (slice_index_or lists k d).after ≡ drop (k + 1) modes
  pub threshold : (k : ℕ) (d : Listing) → k < n → (slice_index_or lists k d).threshold ≡ certainty

-- What layers keep of the layer given last: what it has. Before the first one that is nothing, above the upper bound of
-- the isotopologue of all modes.
pub record IsLast (elements : List Element) (mode_hi given : ℕ) (last : LayerEnd) : Type 0 where
  pub fits : Fits last
  pub threshold_is : last.threshold ≡ mode_hi / 2 ^ given
  pub none : given ≡ 0 → last ≡ record { threshold = last.threshold; members = 0; lo_total = 0; hi_total = 0 }
  pub some : 0 < given → Ok last ≡ end_within_limit elements (threshold_at elements (given - 1))

-- A fault of a list: it is too long for its threshold, which is told, or there is no memory.
abbrev pub IsTooLong : Listing → LayerFault → Type 0
IsTooLong l Memory = Unit {0}
IsTooLong l (TooMany threshold) = (threshold ≡ l.threshold) × (max_sub_isotopologues < length (items_of l))

-- one of these lists is too long for a threshold, which is told, or there is no memory
abbrev pub IsAnyTooLong : ℕ → List Listing → LayerFault → Type 0
IsAnyTooLong threshold lists Memory = Unit {0}
IsAnyTooLong threshold lists (TooMany told) =
    (told ≡ threshold)
    × ((k : ℕ) × (k < length lists)
    × ((d : Listing) → max_sub_isotopologues < length (items_of (lowered (slice_index_or lists k d) threshold))))
