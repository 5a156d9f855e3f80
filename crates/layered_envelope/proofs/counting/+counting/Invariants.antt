use Rattle.std.proofs.Common.{◌+◌, ◌*◌, ◌≤◌, ◌∷◌, length}
use Rattle.layered_envelope.specs.CountedWalks.{members_above, Fits}
use Rattle.layered_envelope.proofs.CountedParts.{members_from, AddsTo}
use Rattle.layered_envelope.proofs.counting.+counting.Given as goal

abbrev pub decreases-count_chosen : goal.decreases-count_chosen
decreases-count_chosen g l = 2 * length l.lists.now + 1

abbrev pub decreases-count_items : goal.decreases-count_items
decreases-count_items g l = 2 * length l.later.now + 2

abbrev pub invariant-count_items-loop-choice : goal.invariant-count_items-loop-choice
invariant-count_items-loop-choice g l = record {
  adds : AddsTo l.threshold l.before.lo l.before.hi (l.list ∷ l.later) l.choice-index l.initial.end l.end;
  fits : Fits l.end;
  steps : l.steps
      + 2 * length l.later * members_from l.threshold l.before.hi (l.list ∷ l.later) l.choice-index
      ≤ l.initial.steps + l.choice-index
      + 2 * length l.later * members_above l.threshold l.before.hi (l.list ∷ l.later);
}
