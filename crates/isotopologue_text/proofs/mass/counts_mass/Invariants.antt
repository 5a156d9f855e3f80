use Rattle.std.proofs.Common.{◌≡◌, ◌+◌, ◌*◌, ◌≤◌, length, drop}
use Rattle.std.specs.Prelude.{sum}
use Rattle.isotopologue_text.specs.Isotopologues.{formula_isotopes, counts_mass}
use Rattle.isotopologue_text.proofs.mass.counts_mass.Given as goal

-- what is left of the counts belongs to the items that are left
abbrev pub invariant-loop-item : goal.invariant-loop-item
invariant-loop-item l = record {
  agree : length l.rest ≡ length (formula_isotopes l.table (drop l.item-index l.items));
  mass : l.mass + counts_mass (formula_isotopes l.table (drop l.item-index l.items)) l.rest
      ≡ counts_mass (formula_isotopes l.table l.items) l.fn.counts;
  bound : l.mass + sum l.rest * 400000000000000 ≤ sum l.fn.counts * 400000000000000;
}
