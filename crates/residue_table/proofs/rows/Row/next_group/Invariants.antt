use Rattle.std.proofs.Common.{ℕ, ◌<◌, ◌≤◌, get_or}
use Rattle.residue_table.proofs.rows.Row.next_group.Given as goal

abbrev pub invariant-loop-group : goal.invariant-loop-group
invariant-loop-group l = (k : ℕ) → l.fn.from ≤ k → k < l.group → l.fn.highest < get_or l.self.group_minima.items k 0
