use Rattle.std.proofs.Common.{◌≡◌, ◌++◌, length, drop}
use Rattle.isotopologue_text.specs.Isotopologues.{formula_isotopes, isotope_items, counts_text}
use Rattle.isotopologue_text.proofs.text.counts_text.Given as goal

-- what is left of the counts belongs to the items that are left
abbrev pub invariant-loop-item : goal.invariant-loop-item
invariant-loop-item l = record {
  agree : length l.rest ≡ length (formula_isotopes l.table (drop l.item-index l.items));
  text : l.text.items ++ counts_text (isotope_items l.table (drop l.item-index l.items)) l.rest
      ≡ counts_text (isotope_items l.table l.items) l.fn.counts;
}
