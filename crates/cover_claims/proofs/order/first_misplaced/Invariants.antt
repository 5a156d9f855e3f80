use Rattle.std.proofs.Common.{◌≡◌, ◌-◌, length}
use Rattle.std.specs.Prelude.{find}
use Rattle.std.specs.List.{range_with_len}
use Rattle.cover_claims.specs.Claims.{isotopologues_in, is_misplaced, first_misplaced}
use Rattle.cover_claims.proofs.order.first_misplaced.Given as goal

-- the members up to here stand in order
abbrev pub invariant-loop-place : goal.invariant-loop-place
invariant-loop-place l =
    let members = isotopologues_in l.claimed.members in
    find (is_misplaced l.claimed.elements members) (range_with_len l.place (length members - l.place))
    ≡ first_misplaced l.claimed.elements members
