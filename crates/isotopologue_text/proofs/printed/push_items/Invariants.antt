use Rattle.std.proofs.Common.{◌≡◌, ◌++◌, map, take}
use Rattle.isotopologue_text.specs.Isotopologues.{isotopes_that_occur, isotope_item}
use Rattle.isotopologue_text.proofs.printed.push_items.Given as goal

-- those so far
abbrev pub invariant-loop-isotope : goal.invariant-loop-isotope
invariant-loop-isotope l =
    l.items.items ≡ l.initial.items.items ++ map (isotope_item l.item) (isotopes_that_occur (take l.isotope-index l.own))
