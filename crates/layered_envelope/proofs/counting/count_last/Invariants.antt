use Rattle.std.proofs.Common.{◌+◌, ◌≤◌, ◌∷◌, []}
use Rattle.layered_envelope.specs.CountedWalks.{Fits}
use Rattle.layered_envelope.proofs.CountedParts.{AddsTo}
use Rattle.layered_envelope.proofs.counting.count_last.Given as goal

abbrev pub invariant-loop-choice : goal.invariant-loop-choice
invariant-loop-choice g l = record {
  adds : AddsTo l.threshold l.before.lo l.before.hi (l.list ∷ []) l.choice-index l.initial.end l.end;
  fits : Fits l.end;
  steps : l.steps ≤ l.initial.steps + l.choice-index;
}
