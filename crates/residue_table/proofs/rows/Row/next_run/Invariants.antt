use Rattle.std.proofs.Common.{ℕ, ◌-◌, ◌*◌, ◌/◌, ◌<◌, ◌≤◌, length, get_or}
use Rattle.residue_table.proofs.rows.Row.next_run.Given as goal

abbrev pub invariant-loop-run : goal.invariant-loop-run
invariant-loop-run l = record {
  from_first : l.fn.at / 16 ≤ l.run;
  to_stop : l.run ≤ l.stop;
  passed : (k : ℕ) → l.fn.at ≤ k → k < l.run * 16 → k < length l.self.entries.items →
      l.fn.highest < get_or l.self.entries.items k 0;
}

abbrev pub decreases-loop-run : goal.decreases-loop-run
decreases-loop-run l = l.stop - l.run
