use Rattle.std.proofs.Common.{◌≡◌}
use Rattle.multinomial_bounds.specs.Bounds.{floor_of, ceiling_of}
use Rattle.multinomial_bounds.specs.Mode.{mode_of_atoms, mode_bound}
use Rattle.multinomial_bounds.proofs.mode.mode_of.Given as goal

abbrev pub invariant-loop-drawn : goal.invariant-loop-drawn
invariant-loop-drawn l = record {
  mode : l.counts.items ≡ mode_of_atoms l.weights l.drawn;
  lo : l.enclosure.lo ≡ mode_bound floor_of l.weights l.drawn;
  hi : l.enclosure.hi ≡ mode_bound ceiling_of l.weights l.drawn;
}
