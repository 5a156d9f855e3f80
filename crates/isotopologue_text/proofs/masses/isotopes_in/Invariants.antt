use Rattle.std.proofs.Common.{◌≡◌, ◌++◌, All, drop}
use Rattle.element_table.specs.Elements.{IsIsotope}
use Rattle.isotopologue_text.specs.Isotopologues.{formula_isotopes}
use Rattle.isotopologue_text.proofs.masses.isotopes_in.Given as goal

-- the isotopes so far, and those of the parts that are left
abbrev pub invariant-loop-item : goal.invariant-loop-item
invariant-loop-item l = record {
  isotopes : l.isotopes.items ++ formula_isotopes l.table (drop l.item-index l.parts)
      ≡ formula_isotopes l.table l.parts;
  are_isotopes : All IsIsotope l.isotopes.items;
}
