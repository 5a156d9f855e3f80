use Rattle.std.proofs.Common.{◌≡◌, ◌+◌, ◌-◌, length, get_or, drop}
use Rattle.residue_table.specs.Sums.{modulus_of}
use Rattle.residue_table.specs.Rows.{AreRows, IsRow}
use Rattle.residue_table.proofs.residues.rows_of.Given as goal

abbrev pub invariant-loop-level : goal.invariant-loop-level
invariant-loop-level l = record {
  one_each : length l.rows.items + 1 ≡ l.level;
  rows : AreRows l.masses l.rows.items;
  length_is : length l.entries.items ≡ modulus_of l.masses;
  from_zero : get_or l.entries.items 0 0 ≡ 0;
  row : IsRow (drop (length l.masses - l.level) l.masses) l.entries.items;
}
