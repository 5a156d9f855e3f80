use Rattle.std.proofs.Common.{◌≡◌, ◌+◌, ◌*◌, ◌≤◌, length, drop}
use Rattle.std.specs.Prelude.{sum}
use Rattle.isotopologue_text.specs.Isotopologues.{isotopes_that_occur, counts_mass}
use Rattle.isotopologue_text.proofs.mass.element_mass.Given as goal

-- what is left of the counts belongs to the isotopes that are left
abbrev pub invariant-loop-isotope : goal.invariant-loop-isotope
invariant-loop-isotope l = record {
  agree : length l.rest ≡ length (isotopes_that_occur (drop l.isotope-index l.isotopes));
  mass : l.mass + counts_mass (isotopes_that_occur (drop l.isotope-index l.isotopes)) l.rest
      ≡ counts_mass (isotopes_that_occur l.isotopes) l.fn.counts;
  bound : l.mass + sum l.rest * 400000000000000 ≤ sum l.fn.counts * 400000000000000;
}
