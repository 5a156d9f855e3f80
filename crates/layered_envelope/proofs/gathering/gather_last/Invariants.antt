use Rattle.std.proofs.Common.{[]}
use Rattle.layered_envelope.proofs.GatheredParts.{GathersTo}
use Rattle.layered_envelope.proofs.gathering.gather_last.Given as goal

abbrev pub invariant-loop-choice : goal.invariant-loop-choice
invariant-loop-choice l =
    GathersTo l.threshold l.before.lo l.before.hi l.list [] l.choice-index l.initial.gathering l.gathering
