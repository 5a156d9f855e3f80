use Rattle.std.proofs.Common.{◌≡◌, ℕ, ◌<◌, false}
use Rattle.isotopologue_sets.specs.Layers.{ends_search, threshold_at}
use Rattle.reaching_layer.proofs.search.search_with.Given as goal

-- as many layers were given, and the search ended at none of them
abbrev pub invariant-loop-count : goal.invariant-loop-count
invariant-loop-count g l =
    (l.layers.elements ≡ l.initial.layers.elements) × (l.layers.given ≡ l.count)
    × ((k : ℕ) → k < l.count →
    ends_search l.initial.layers.elements l.coverage (threshold_at l.initial.layers.elements k) ≡ false)
