use Rattle.std.proofs.Common.{◌≡◌, length}
use Rattle.layered_envelope.specs.LayerWalks.{left}
use Rattle.layered_envelope.proofs.tests.gather_with.Given as goal

abbrev pub invariant-loop-places : goal.invariant-loop-places
invariant-loop-places g l =
    record { out : length l.out ≡ l.elements; elements : length l.members.elements ≡ l.elements }

abbrev pub decreases-loop-places : goal.decreases-loop-places
decreases-loop-places g l = length (left l.members)
