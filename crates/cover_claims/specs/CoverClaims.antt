-- The claim that a cover makes.
use Rattle.std.specs.Prelude.{ℕ, Bool, true, false, List, ◌++◌, map, take, drop}
use Rattle.multinomial_bounds.specs.Isotopologue.{Element}
use Rattle.isotopologue_sets.specs.Covers.{CoverNumbers}
use Rattle.cover_claims.specs.declared.claim.ClaimNumbers.{ClaimNumbers}
use Rattle.cover_claims.specs.Claims.{ClaimedMember, Claimed}

-- an isotopologue that is marked or not
abbrev pub with_mark : Bool → List (List ℕ) → ClaimedMember
with_mark marked counts = record { marked = marked; counts = counts }

-- isotopologues of which so many are marked, from the first one on
abbrev pub first_marked : ℕ → List (List (List ℕ)) → List ClaimedMember
first_marked number isotopologues =
    map (with_mark true) (take number isotopologues) ++ map (with_mark false) (drop number isotopologues)

-- the layer of a cover in its order, with the cover marked, and what is claimed of it
abbrev pub claimed_by_cover : List Element → CoverNumbers → Claimed
claimed_by_cover elements cover = record {
  elements = elements;
  members = first_marked cover.size (map (λ m. m.counts) cover.members);
}

abbrev pub numbers_of_cover : ℕ → CoverNumbers → ClaimNumbers
numbers_of_cover coverage cover = record {
  coverage = coverage;
  size = cover.size;
  bound = cover.bound;
  threshold = cover.threshold;
}
