use Rattle.std.proofs.Common.{◌≡◌, map, ltb, take}
use Rattle.std.specs.Prelude.{filter}
use Rattle.isotopologue_sets.specs.Layers.{hi_of}
use Rattle.cover_claims.specs.Claims.{isotopologues_in}
use Rattle.cover_claims.proofs.totals.greatest_above.Given as goal

abbrev pub invariant-loop-place : goal.invariant-loop-place
invariant-loop-place l =
    l.bounds.items
    ≡ map (hi_of l.claimed.elements)
    (filter (λ m. ltb l.threshold (hi_of l.claimed.elements m)) (take l.place (isotopologues_in l.claimed.members)))
