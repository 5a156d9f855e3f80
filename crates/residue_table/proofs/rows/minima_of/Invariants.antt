use Rattle.std.proofs.Common.{◌≡◌, ℕ, ◌+◌, ◌*◌, ◌/◌, ◌<◌, ◌≤◌, length, get_or}
use Rattle.residue_table.specs.Rows.{IsLeastOf}
use Rattle.residue_table.proofs.rows.minima_of.Given as goal

abbrev pub invariant-loop-run : goal.invariant-loop-run
invariant-loop-run l = record {
  one_each : length l.minima.items ≡ l.run;
  bounds : (k : ℕ) → k < length l.numbers → k / 16 < l.run → get_or l.minima.items (k / 16) 0 ≤ get_or l.numbers k 0;
  least : (k : ℕ) → k < l.run → IsLeastOf l.numbers (k * 16) ((k + 1) * 16) (get_or l.minima.items k 0);
}
