use Rattle.std.proofs.Common.{◌≡◌, drop, map}
use Rattle.isotopologue_text.specs.Isotopologues.{isotopes_that_occur, isotope_item}
use Rattle.isotopologue_text.specs.ReadCounts.{element_counts}
use Rattle.isotopologue_text.proofs.read.read_element.Given as goal

-- what the isotopes left give behind the counts so far is what all give
abbrev pub invariant-loop-isotope : goal.invariant-loop-isotope
invariant-loop-isotope l =
    element_counts (map (isotope_item l.item) (isotopes_that_occur (drop l.isotope-index l.isotopes))) l.left
    l.counts.items l.rest
    ≡ element_counts (map (isotope_item l.item) (isotopes_that_occur l.isotopes)) l.atoms l.initial.counts.items l.text
