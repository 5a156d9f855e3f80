use Rattle.std.proofs.Common.{◌≡◌, ◌++◌, drop}
use Rattle.isotopologue_text.specs.Isotopologues.{isotope_items}
use Rattle.isotopologue_text.proofs.printed.items_in.Given as goal

-- the isotopes so far, and those of the parts that are left
abbrev pub invariant-loop-item : goal.invariant-loop-item
invariant-loop-item l =
    l.items.items ++ isotope_items l.table (drop l.item-index l.parts) ≡ isotope_items l.table l.parts
