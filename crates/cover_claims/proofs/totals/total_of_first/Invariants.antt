use Rattle.std.proofs.Common.{◌≡◌, ◌≤◌, ◌+◌, ◌*◌, sum, take}
use Rattle.cover_claims.proofs.totals.total_of_first.Given as goal

abbrev pub invariant-loop-bound : goal.invariant-loop-bound
invariant-loop-bound l =
    (l.total ≡ sum (take l.bound-index l.bounds)) × (l.left + l.bound-index ≡ l.number)
    × (l.total ≤ l.bound-index * 18446744073709551615)
