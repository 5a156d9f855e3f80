use Rattle.std.proofs.Common.{ℕ, ◌<◌, length}
use Rattle.residue_table.specs.Rows.{AreLimited}
use Rattle.residue_table.specs.Strides.{IsClosed, IsLowered, KeepsSound}
use Rattle.residue_table.proofs.round_robin.add_mass.Given as goal

abbrev pub invariant-loop-start : goal.invariant-loop-start
invariant-loop-start l = record {
  limited : AreLimited l.entries;
  lowered : IsLowered l.initial.entries l.entries;
  closed : (p : ℕ) → p < l.start →
      IsClosed (length l.initial.entries) p l.step l.mass l.cycle l.initial.entries l.entries;
  sound : KeepsSound l.mass l.initial.entries l.entries;
}
