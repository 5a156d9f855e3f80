use Rattle.std.proofs.Common.{◌≡◌, ◌*◌, ◌≤◌, take}
use Rattle.formula_text.specs.Formulas.{atoms_of}
use Rattle.golden_rules.specs.MeetsRules.{valence_sum}
use Rattle.golden_rules.proofs.kinds.valence_sum.Given as goal

abbrev pub invariant-loop-item : goal.invariant-loop-item
invariant-loop-item l =
    (l.sum ≡ valence_sum l.table (take l.item-index l.formula)) ×
    (l.sum ≤ atoms_of (take l.item-index l.formula) * 8)
