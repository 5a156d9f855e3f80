use Rattle.std.proofs.Common.{◌≡◌, ◌*◌, ◌≤◌, take}
use Rattle.formula_text.specs.Formulas.{atoms_of}
use Rattle.formula_text.specs.Masses.{mass_of}
use Rattle.isotopologue_text.specs.Isotopologues.{labelled_items}
use Rattle.isotopologue_text.proofs.mass.labelled_mass.Given as goal

abbrev pub invariant-loop-item : goal.invariant-loop-item
invariant-loop-item l = record {
  mass : l.mass ≡ mass_of l.table (labelled_items (take l.item-index l.items));
  bound : l.mass ≤ atoms_of (take l.item-index l.items) * 400000000000000;
}
