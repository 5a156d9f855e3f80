use Rattle.std.proofs.Common.{◌≡◌, ◌++◌, length, drop, map}
use Rattle.isotopologue_text.specs.Isotopologues.{isotopes_that_occur, isotope_item, counts_text}
use Rattle.isotopologue_text.proofs.text.push_element.Given as goal

-- what is left of the counts belongs to the isotopes that are left
abbrev pub invariant-loop-isotope : goal.invariant-loop-isotope
invariant-loop-isotope l = record {
  agree : length l.rest ≡ length (isotopes_that_occur (drop l.isotope-index l.isotopes));
  text : l.text.items ++ counts_text (map (isotope_item l.item) (isotopes_that_occur (drop l.isotope-index l.isotopes))) l.rest
      ≡ l.initial.text.items ++ counts_text (map (isotope_item l.item) (isotopes_that_occur l.isotopes)) l.fn.counts;
}
