use Rattle.std.proofs.Common.{◌≡◌, ℕ, ◌<◌, ◌^◌, take, sum}
use Rattle.reaching_layer.proofs.fewest.fewest.Given as goal

abbrev pub invariant-loop-count : goal.invariant-loop-count
invariant-loop-count l =
    (l.total ≡ sum (take l.count l.bounds)) × (l.total < 2 ^ 65) × (l.wanted ≡ l.coverage)
    × ((k : ℕ) → k < l.count → sum (take k l.bounds) < l.coverage)
