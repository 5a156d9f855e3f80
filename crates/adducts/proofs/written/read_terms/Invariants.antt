use Rattle.std.proofs.Common.{length, ◌-◌}
use Rattle.adducts.proofs.ReaderSteps.{TermsSoFar}
use Rattle.adducts.proofs.written.read_terms.Given as goal

abbrev pub invariant-loop-coefficient : goal.invariant-loop-coefficient
invariant-loop-coefficient l = TermsSoFar l.text l.fn.at l.initial.parts.items l.parts.items l.at

abbrev pub decreases-loop-coefficient : goal.decreases-loop-coefficient
decreases-loop-coefficient l = length l.text - l.at
