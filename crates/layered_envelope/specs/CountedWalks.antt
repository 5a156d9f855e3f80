-- For proofs alone: what a walk over lists counts, and what a layer adds to the one before it.
use Rattle.std.specs.Prelude.{ℕ, ◌≡◌, ◌+◌, ◌*◌, ◌≤◌, nat_lt, List, length, sum_by, fold, Result, Ok, Err, if◌then◌else◌}
use Rattle.multinomial_bounds.specs.Bounds.{certainty}
use Rattle.sub_isotopologues.specs.Listings.{Listing}
use Rattle.layered_envelope.specs.declared.fault.LayerFault.{LayerFault}
use Rattle.layered_envelope.specs.declared.fault.LayerFault.TheVariants.{TooMany}
use Rattle.layered_envelope.specs.declared.layer_end.LayerEnd.{LayerEnd}
use Rattle.layered_envelope.specs.declared.layer_end.TheConstants.{MAX_MEMBERS}
use Rattle.layered_envelope.specs.ChosenPlaces.{bounds_at, above}
use Rattle.layered_envelope.specs.Walks.{lower, upper, los_of, his_of}

-- the bounds of the product of the items at places
unfoldable pub lo_at : List Listing → List ℕ → ℕ
lo_at lists places = fold lower certainty (bounds_at (los_of lists) places)

unfoldable pub hi_at : List Listing → List ℕ → ℕ
hi_at lists places = fold upper certainty (bounds_at (his_of lists) places)

-- all places of the lists above a threshold
unfoldable pub places_above : ℕ → List Listing → List (List ℕ)
places_above threshold lists = above upper threshold certainty (his_of lists)

-- what the walk over them counts
abbrev pub counted_walk : ℕ → List Listing → Result LayerEnd LayerFault
counted_walk threshold lists =
    if nat_lt MAX_MEMBERS (length (places_above threshold lists))
    then Err (TooMany threshold)
    else Ok (record {
      threshold = threshold;
      members = length (places_above threshold lists);
      lo_total = sum_by (lo_at lists) (places_above threshold lists);
      hi_total = sum_by (hi_at lists) (places_above threshold lists);
    })

-- a number of members of a layer, and totals of their bounds that go with it
pub record Fits (end : LayerEnd) : Type 0 where
  pub members : end.members ≤ MAX_MEMBERS
  pub lo : end.lo_total ≤ end.members * certainty
  pub hi : end.hi_total ≤ end.members * certainty

-- these are of all places of the lists above the threshold that it has
pub record IsCounted (lists : List Listing) (end : LayerEnd) : Type 0 where
  pub members : end.members ≡ length (places_above end.threshold lists)
  pub lo : end.lo_total ≡ sum_by (lo_at lists) (places_above end.threshold lists)
  pub hi : end.hi_total ≡ sum_by (hi_at lists) (places_above end.threshold lists)

-- Of the places of lists whose product, begun with one of upper bound x and lower bound y, is above a threshold: how
-- many there are, and what the lower and the upper bounds of their products total.
unfoldable pub members_above : ℕ → ℕ → List Listing → ℕ
members_above threshold x lists = length (above upper threshold x (his_of lists))

unfoldable pub lo_above : ℕ → ℕ → ℕ → List Listing → ℕ
lo_above threshold y x lists =
    sum_by (λ places. fold lower y (bounds_at (los_of lists) places)) (above upper threshold x (his_of lists))

unfoldable pub hi_above : ℕ → ℕ → List Listing → ℕ
hi_above threshold x lists =
    sum_by (λ places. fold upper x (bounds_at (his_of lists) places)) (above upper threshold x (his_of lists))

-- those above a threshold were added, except those above the threshold counted before
pub record Adds (threshold y x : ℕ) (lists : List Listing) (old new : LayerEnd) : Type 0 where
  pub same : new.threshold ≡ old.threshold
  pub members : new.members + members_above old.threshold x lists ≡ old.members + members_above threshold x lists
  pub lo : new.lo_total + lo_above old.threshold y x lists ≡ old.lo_total + lo_above threshold y x lists
  pub hi : new.hi_total + hi_above old.threshold x lists ≡ old.hi_total + hi_above threshold x lists

-- one choice of these bounds more, unless it was counted before
abbrev pub with_member : ℕ → ℕ → LayerEnd → LayerEnd
with_member lo hi end =
    if nat_lt end.threshold hi
    then end
    else record {
      threshold = end.threshold;
      members = end.members + 1;
      lo_total = end.lo_total + lo;
      hi_total = end.hi_total + hi;
    }
