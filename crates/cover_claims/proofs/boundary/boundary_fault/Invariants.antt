use Rattle.std.proofs.Common.{◌≡◌}
use Rattle.cover_claims.specs.Claims.{isotopologues_in, boundary_fault}
use Rattle.cover_claims.proofs.Exits.{fault_from}
use Rattle.cover_claims.proofs.boundary.boundary_fault.Given as goal

-- no neighbour of the members so far was left out
abbrev pub invariant-loop-place : goal.invariant-loop-place
invariant-loop-place l =
    let members = isotopologues_in l.claimed.members in
    fault_from l.claimed.elements l.threshold members l.place ≡ boundary_fault l.claimed.elements l.threshold members
