use Rattle.std.proofs.Common.{◌≡◌, ◌≤◌, length, take}
use Rattle.cover_claims.specs.Claims.{marked_in}
use Rattle.cover_claims.proofs.totals.marked_count.Given as goal

abbrev pub invariant-loop-place : goal.invariant-loop-place
invariant-loop-place l = (l.count ≡ length (marked_in (take l.place l.claimed.members))) × (l.count ≤ l.place)
