use Rattle.std.proofs.Common.{◌≡◌, ℕ, ◌<◌, ◌^◌, take}
use Rattle.std.specs.List.{sum_by}
use Rattle.reaching_layer.proofs.fewest.fewest_lower.Given as goal

abbrev pub invariant-loop-count : goal.invariant-loop-count
invariant-loop-count l =
    (l.total ≡ sum_by (λ r. r.enclosure.lo) (take l.count l.rows)) × (l.total < 2 ^ 65) × (l.wanted ≡ l.coverage)
    × ((k : ℕ) → k < l.count → sum_by (λ r. r.enclosure.lo) (take k l.rows) < l.coverage)
