use Rattle.std.proofs.Common.{◌≡◌, length}
use Rattle.layered_envelope.proofs.tests.the_members_of_two_elements_have_their_counts_and_enclosures.Given as goal

abbrev pub invariant-loop-end : goal.invariant-loop-end
invariant-loop-end g l = length l.layers.elements ≡ 2
