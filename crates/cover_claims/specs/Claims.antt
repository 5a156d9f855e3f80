-- What is claimed of a list of isotopologues, and the first test that a claim fails. Coverages, thresholds and bounds of
-- probabilities are in units of 10^-18. The place of a member is the number of members before it.
use Rattle.std.specs.Prelude.{ℕ, ◌-◌, Bool, not, ◌&&◌, ◌==◌, nat_lt, nat_le, List, [], ◌∷◌, length, map, filter}
use Rattle.std.specs.Prelude.{flat_map, find, Option, Some, None, slice_index_or, if◌then◌else◌}
use Rattle.std.specs.List.{range_with_len, list_any, concat}
use Rattle.std.specs.Cmp.Lexicographic.{pointwise}
use Rattle.std.specs.Option.{option_map}
use Rattle.std.specs.Str.{bytes_eq}
use Rattle.multinomial_bounds.specs.Isotopologue.{Element}
use Rattle.isotopologue_sets.specs.Layers.{hi_of, lo_total, mode_of_each}
use Rattle.isotopologue_sets.specs.Covers.{stands_before}
use Rattle.isotopologue_neighbours.specs.Moves.{neighbours_of}
use Rattle.isotopologue_neighbours.specs.Closed.{greatest_total}
use Rattle.cover_claims.specs.declared.claim.ClaimNumbers.{ClaimNumbers}
use Rattle.cover_claims.specs.declared.fault.ClaimFault.{ClaimFault}
use Rattle.cover_claims.specs.declared.fault.ClaimFault.TheVariants.{OutOfOrder, ModeAbsent, OpenBoundary, SizeDiffers, CoverShort, BoundTooHigh}

-- an isotopologue of a claim, and whether it is marked as one of the cover
pub record ClaimedMember : Type 0 where
  pub marked : Bool
  pub counts : List (List ℕ)

-- isotopologues with the elements that they are of
pub record Claimed : Type 0 where
  pub elements : List Element
  pub members : List ClaimedMember

-- the isotopologues, and those that are marked
abbrev pub isotopologues_in : List ClaimedMember → List (List (List ℕ))
isotopologues_in members = map (λ m. m.counts) members

abbrev pub marked_in : List ClaimedMember → List (List (List ℕ))
marked_in members = map (λ m. m.counts) (filter (λ m. m.marked) members)

-- whether an isotopologue is a member
abbrev pub is_member : List (List (List ℕ)) → List (List ℕ) → Bool
is_member members isotopologue = list_any (pointwise bytes_eq isotopologue) members

-- the member at a place
abbrev pub member_at : List (List (List ℕ)) → ℕ → List (List ℕ)
member_at members place = slice_index_or members place []

-- whether the member at a place doesn't come after the one before it, in the order of a cover
abbrev pub is_misplaced : List Element → List (List (List ℕ)) → ℕ → Bool
is_misplaced elements members place =
    not (stands_before elements (member_at members (place - 1)) (member_at members place))

-- the place of the first such member
unfoldable pub first_misplaced : List Element → List (List (List ℕ)) → Option ℕ
first_misplaced elements members =
    find (is_misplaced elements members) (range_with_len 1 (length members - 1))

-- the neighbours of the members, each with its member's place
abbrev pub exits : List (List (List ℕ)) → List (ℕ × List (List ℕ))
exits members =
    flat_map (λ place. map (λ i. (place, i)) (neighbours_of (member_at members place))) (range_with_len 0 (length members))

-- whether an isotopologue above the threshold was left out
abbrev pub is_left_out : List Element → ℕ → List (List (List ℕ)) → List (List ℕ) → Bool
is_left_out elements threshold members isotopologue =
    nat_lt threshold (hi_of elements isotopologue) && not (is_member members isotopologue)

-- the first neighbour of a member that was left out
unfoldable pub first_left_out : List Element → ℕ → List (List (List ℕ)) → Option (ℕ × List (List ℕ))
first_left_out elements threshold members =
    find (λ exit. is_left_out elements threshold members exit.1) (exits members)

-- The tests, each with its answer where the claim fails it.

-- 1. each member comes after the one before it, so none stands twice
abbrev pub order_fault : List Element → List (List (List ℕ)) → Option ClaimFault
order_fault elements members = option_map OutOfOrder (first_misplaced elements members)

-- 2. the isotopologue of all modes is a member
abbrev pub mode_fault : List Element → List (List (List ℕ)) → Option ClaimFault
mode_fault elements members = if is_member members (mode_of_each elements) then None else Some ModeAbsent

-- 3. no neighbour of a member was left out
abbrev pub boundary_fault : List Element → ℕ → List (List (List ℕ)) → Option ClaimFault
boundary_fault elements threshold members =
    option_map (λ exit. OpenBoundary exit.0 (concat exit.1) (hi_of elements exit.1))
    (first_left_out elements threshold members)

-- 4. the marked members are as many as was said
abbrev pub size_fault : ℕ → List (List (List ℕ)) → Option ClaimFault
size_fault size marked = if length marked == size then None else Some (SizeDiffers (length marked))

-- 5. the lower bounds of the marked members have the coverage
abbrev pub cover_fault : List Element → ℕ → List (List (List ℕ)) → Option ClaimFault
cover_fault elements coverage marked =
    if nat_le coverage (lo_total elements marked) then None else Some (CoverShort (lo_total elements marked))

-- 6. one isotopologue less than the bound says has too little by the greatest upper bounds
abbrev pub bound_fault : List Element → ClaimNumbers → List (List (List ℕ)) → Option ClaimFault
bound_fault elements claim members =
    let total = greatest_total elements claim.threshold members (claim.bound - 1) in
    if nat_lt 0 claim.bound && nat_le claim.coverage total then Some (BoundTooHigh total) else None

-- the first fault that there is
abbrev pub first_fault : List (Option ClaimFault) → Option ClaimFault
first_fault [] = None
first_fault (None ∷ others) = first_fault others
first_fault (Some fault ∷ others) = Some fault

-- The first test that a claim fails.
unfoldable pub claim_fault : Claimed → ClaimNumbers → Option ClaimFault
claim_fault claimed claim =
    let elements = claimed.elements in
    let members = isotopologues_in claimed.members in
    let marked = marked_in claimed.members in
    first_fault (
    order_fault elements members
    ∷ mode_fault elements members
    ∷ boundary_fault elements claim.threshold members
    ∷ size_fault claim.size marked
    ∷ cover_fault elements claim.coverage marked
    ∷ bound_fault elements claim members
    ∷ []
    )
