use Rattle.multinomial_bounds.proofs.ModeLemmas.{BestBelow}
use Rattle.multinomial_bounds.proofs.mode.next_isotope.Given as goal

abbrev pub invariant-loop-i : goal.invariant-loop-i
invariant-loop-i l = BestBelow l.weights l.counts l.i l.best
