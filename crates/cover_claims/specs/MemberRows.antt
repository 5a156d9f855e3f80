-- Only contracts of this crate's inner calls and proofs use these: members whose counts stand end to end.
use Rattle.std.specs.Prelude.{◌≡◌, ◌<◌, ℕ, Bool, List, [], ◌∷◌, length, drop, slice_index_or}
use Rattle.multinomial_bounds.specs.Isotopologue.{Element}
use Rattle.cover_claims.specs.CountsInRow.{isotopes_of_all, counts_by_element}
use Rattle.multinomial_bounds.specs.declared.enclosure.Enclosure.{Enclosure}
use Rattle.isotopologue_sets.specs.Layers.{lo_of, hi_of}
use Rattle.cover_claims.specs.Claims.{ClaimedMember, member_at}

-- a member for each mark, with its counts of these
unfoldable pub member_rows : List Element → List ℕ → List Bool → List ClaimedMember
member_rows elements counts [] = []
member_rows elements counts (marked ∷ others) =
    record { marked = marked; counts = counts_by_element elements counts }
    ∷ member_rows elements (drop (isotopes_of_all elements) counts) others

-- the enclosures of isotopologues, in their order
pub record AreBounded (elements : List Element) (isotopologues : List (List (List ℕ))) (enclosures : List Enclosure)
    : Type 0 where
  pub one_each : length enclosures ≡ length isotopologues
  pub lo :
      (k : ℕ) (d : Enclosure) → k < length enclosures →
      (slice_index_or enclosures k d).lo ≡ lo_of elements (member_at isotopologues k)
  pub hi :
      (k : ℕ) (d : Enclosure) → k < length enclosures →
      (slice_index_or enclosures k d).hi ≡ hi_of elements (member_at isotopologues k)
