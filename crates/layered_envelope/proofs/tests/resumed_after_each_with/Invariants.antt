use Rattle.std.proofs.Common.{◌≡◌, length}
use Rattle.layered_envelope.specs.LayerWalks.{left}
use Rattle.layered_envelope.proofs.tests.resumed_after_each_with.Given as goal

abbrev pub invariant-loop-alloc : goal.invariant-loop-alloc
invariant-loop-alloc g l =
    record { out : length l.out ≡ l.elements; elements : length l.members.elements ≡ l.elements }

abbrev pub decreases-loop-alloc : goal.decreases-loop-alloc
decreases-loop-alloc g l = length (left l.members)
