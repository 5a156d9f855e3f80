use Rattle.std.proofs.Common.{◌≡◌, take}
use Rattle.std.specs.List.{concat}
use Rattle.isotopologue_sets.specs.Layers.{mode_of_each}
use Rattle.cover_claims.proofs.claim.mode_row.Given as goal

abbrev pub invariant-loop-element : goal.invariant-loop-element
invariant-loop-element l = l.row.items ≡ concat (mode_of_each (take l.element-index l.elements))
