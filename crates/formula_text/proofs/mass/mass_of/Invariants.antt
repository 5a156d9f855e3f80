use Rattle.std.proofs.Common.{◌≡◌, ◌*◌, ◌≤◌, take}
use Rattle.formula_text.specs.Formulas.{atoms_of}
use Rattle.formula_text.specs.Masses.{mass_of}
use Rattle.formula_text.proofs.mass.mass_of.Given as goal

abbrev pub invariant-loop-item : goal.invariant-loop-item
invariant-loop-item l =
    (l.mass ≡ mass_of l.table (take l.item-index l.items)) ×
    (l.mass ≤ atoms_of (take l.item-index l.items) * 400000000000000)
