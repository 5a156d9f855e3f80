-- What an accepted claim says. Coverages are in units of 10^-18.
use Rattle.std.specs.Prelude.{◌≡◌, length, All}
use Rattle.multinomial_bounds.specs.Isotopologue.{IsIsotopologue}
use Rattle.isotopologue_sets.specs.Coverage.{Reaches, Bound}
use Rattle.cover_claims.specs.declared.claim.ClaimNumbers.{ClaimNumbers}
use Rattle.cover_claims.specs.Claims.{Claimed, isotopologues_in, marked_in}

-- Each member is an isotopologue, the marked ones have the coverage in exact weights and are as many as was said, and no
-- set with fewer members than the bound has it.
pub record IsTrueClaim (claimed : Claimed) (claim : ClaimNumbers) : Type 0 where
  pub isotopologues : All (IsIsotopologue claimed.elements) (isotopologues_in claimed.members)
  pub reached : Reaches claimed.elements (marked_in claimed.members) claim.coverage
  pub size_is : length (marked_in claimed.members) ≡ claim.size
  pub least : Bound claimed.elements claim.bound claim.coverage
