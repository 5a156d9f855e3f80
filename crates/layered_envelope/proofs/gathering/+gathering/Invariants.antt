use Rattle.std.proofs.Common.{◌+◌, ◌*◌, length}
use Rattle.layered_envelope.proofs.GatheredParts.{GathersTo}
use Rattle.layered_envelope.proofs.gathering.+gathering.Given as goal

abbrev pub decreases-gather_chosen : goal.decreases-gather_chosen
decreases-gather_chosen l = 2 * length l.lists.now + 1

abbrev pub decreases-gather_items : goal.decreases-gather_items
decreases-gather_items l = 2 * length l.later.now + 2

abbrev pub invariant-gather_items-loop-choice : goal.invariant-gather_items-loop-choice
invariant-gather_items-loop-choice l =
    GathersTo l.threshold l.before.lo l.before.hi l.list l.later l.choice-index l.initial.gathering l.gathering
