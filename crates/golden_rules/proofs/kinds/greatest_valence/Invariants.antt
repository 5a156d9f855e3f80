use Rattle.std.proofs.Common.{◌≡◌, ◌≤◌, take}
use Rattle.golden_rules.specs.MeetsRules.{greatest_valence}
use Rattle.golden_rules.proofs.kinds.greatest_valence.Given as goal

abbrev pub invariant-loop-item : goal.invariant-loop-item
invariant-loop-item l =
    (l.greatest ≡ greatest_valence l.table (take l.item-index l.formula)) × (l.greatest ≤ 8)
