use Rattle.std.proofs.Common.{◌≡◌, ◌++◌, All, take}
use Rattle.element_table.specs.Elements.{IsIsotope}
use Rattle.isotopologue_text.specs.Isotopologues.{isotopes_that_occur}
use Rattle.isotopologue_text.proofs.masses.push_isotopes.Given as goal

-- those so far
abbrev pub invariant-loop-isotope : goal.invariant-loop-isotope
invariant-loop-isotope l = record {
  isotopes : l.isotopes.items ≡ l.initial.isotopes.items ++ isotopes_that_occur (take l.isotope-index l.own);
  are_isotopes : All IsIsotope l.isotopes.items;
}
