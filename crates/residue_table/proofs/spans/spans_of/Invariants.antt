use Rattle.std.proofs.Common.{◌≡◌, ℕ, List, ◌*◌, ◌^◌, ◌≤◌, length}
use Rattle.residue_table.specs.Rows.{AreRunMinima, AreSpans}
use Rattle.residue_table.proofs.spans.spans_of.Given as goal

abbrev pub invariant-loop-power : goal.invariant-loop-power
invariant-loop-power l = record {
  one_each : length l.spans.items ≡ l.power;
  as_many : length l.minima.items ≡ length l.fn.minima;
  spans : (entries : List ℕ) → length entries ≤ 16 * length l.fn.minima →
      AreRunMinima entries 1 l.fn.minima → AreSpans entries (length l.fn.minima) l.spans.items;
  longest : (entries : List ℕ) → length entries ≤ 16 * length l.fn.minima →
      AreRunMinima entries 1 l.fn.minima → AreRunMinima entries (2 ^ l.power) l.minima.items;
}
