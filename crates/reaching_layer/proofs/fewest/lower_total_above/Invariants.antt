use Rattle.std.proofs.Common.{◌≡◌, ◌*◌, ◌^◌, ◌≤◌, take}
use Rattle.std.specs.Prelude.{filter, nat_lt, sum_by}
use Rattle.reaching_layer.proofs.fewest.lower_total_above.Given as goal

abbrev pub invariant-loop-row : goal.invariant-loop-row
invariant-loop-row l =
    (l.total ≡ sum_by (λ r. r.enclosure.lo) (filter (λ r. nat_lt l.threshold r.enclosure.hi) (take l.row-index l.rows)))
    × (l.total ≤ l.row-index * 10 ^ 18)
