use Rattle.std.proofs.Common.{◌-◌, ◌≤◌}
use Rattle.residue_table.specs.Rows.{NoneReached}
use Rattle.residue_table.proofs.rows.Row.first_between.Given as goal

abbrev pub invariant-loop-at : goal.invariant-loop-at
invariant-loop-at l = record {
  from_start : l.start ≤ l.at;
  to_end : l.at ≤ l.end;
  none_before : NoneReached l.self.entries.items l.start l.at l.from;
}

abbrev pub decreases-loop-at : goal.decreases-loop-at
decreases-loop-at l = l.end - l.at
