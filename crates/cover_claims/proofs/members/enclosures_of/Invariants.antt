use Rattle.std.proofs.Common.{◌≡◌, length}
use Rattle.cover_claims.specs.Claims.{isotopologues_in}
use Rattle.cover_claims.specs.MemberRows.{member_rows}
use Rattle.cover_claims.proofs.BoundedMembers.{BoundedSoFar}
use Rattle.cover_claims.proofs.members.enclosures_of.Given as goal

-- the enclosures so far
abbrev pub invariant-loop-place : goal.invariant-loop-place
invariant-loop-place l = record {
  so_far : length l.enclosures.items ≡ l.place;
  bounded : BoundedSoFar l.elements (isotopologues_in (member_rows l.elements l.counts l.marks)) l.enclosures.items;
}
