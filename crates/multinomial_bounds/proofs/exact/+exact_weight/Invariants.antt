use Rattle.std.proofs.Common.{◌≡◌, ◌-◌}
use Rattle.multinomial_bounds.proofs.ExactLemmas.{weight_so_far}
use Rattle.multinomial_bounds.proofs.exact.+exact_weight.Given as goal

-- the weight of the ways whose last atom was of one of the isotopes so far
abbrev pub invariant-loop-i : goal.invariant-loop-i
invariant-loop-i l = record {
  same : l.counts ≡ l.fn.counts;
  weight : l.weight ≡ weight_so_far l.weights (l.atoms - 1) l.fn.counts l.i;
}

abbrev pub decreases-exact_weight : goal.decreases-exact_weight
decreases-exact_weight l = l.atoms
