use Rattle.std.proofs.Common.{◌≤◌}
use Rattle.multinomial_bounds.specs.Bounds.{certainty}
use Rattle.sub_isotopologues.proofs.CutoffLemmas.{Cuts}
use Rattle.sub_isotopologues.proofs.cutoff.cutoff_of_factors.Given as goal

-- the factors from the place on are taken off the threshold
abbrev pub invariant-loop-place : goal.invariant-loop-place
invariant-loop-place l = record {
  at_most_one : l.cut ≤ certainty;
  cuts : Cuts l.threshold l.factors l.cut l.place;
}
