use Rattle.std.proofs.Common.{◌≡◌, ◌+◌, ◌≤◌, ◌<◌, ℕ, false}
use Rattle.isotopologue_sets.specs.Layers.{ends_search, threshold_at}
use Rattle.reaching_layer.proofs.layer.reaching_number.Given as goal

-- no layer before this one has the coverage
abbrev pub invariant-loop-number : goal.invariant-loop-number
invariant-loop-number l =
    (k : ℕ) → k + 1 < l.number → ends_search l.layers.elements l.coverage (threshold_at l.layers.elements k) ≡ false
