use Rattle.std.proofs.Common.{◌≡◌, ◌≤◌, ℕ, length, get_or}
use Rattle.std.specs.Prelude.{None}
use Rattle.layered_envelope.proofs.kept.add_places.Given as goal

abbrev pub invariant-loop : goal.invariant-loop
invariant-loop l = record {
  long : l.counter ≤ length l.by_atoms.items;
  same : (k : ℕ) → get_or l.by_atoms.items k None ≡ get_or l.initial.by_atoms.items k None;
}
