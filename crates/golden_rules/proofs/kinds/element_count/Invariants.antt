use Rattle.std.proofs.Common.{◌≡◌, ◌≤◌, take}
use Rattle.formula_text.specs.Formulas.{atoms_of}
use Rattle.golden_rules.specs.MeetsRules.{element_count}
use Rattle.golden_rules.proofs.kinds.element_count.Given as goal

abbrev pub invariant-loop-item : goal.invariant-loop-item
invariant-loop-item l =
    (l.total ≡ element_count (take l.item-index l.formula) l.symbol) ×
    (l.total ≤ atoms_of (take l.item-index l.formula))
