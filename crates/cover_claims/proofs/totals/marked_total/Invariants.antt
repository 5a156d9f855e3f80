use Rattle.std.proofs.Common.{◌≡◌, ◌≤◌, ◌*◌, ◌^◌, take}
use Rattle.isotopologue_sets.specs.Layers.{lo_total}
use Rattle.cover_claims.specs.Claims.{marked_in}
use Rattle.cover_claims.proofs.totals.marked_total.Given as goal

abbrev pub invariant-loop-place : goal.invariant-loop-place
invariant-loop-place l =
    (l.total ≡ lo_total l.claimed.elements (marked_in (take l.place l.claimed.members))) × (l.total ≤ l.place * 10 ^ 18)
