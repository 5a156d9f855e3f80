use Rattle.std.proofs.Common.{◌≡◌, take}
use Rattle.layered_envelope.specs.LayerLists.{elements_of}
use Rattle.layered_envelope.proofs.lists.take_lists.Given as goal

abbrev pub invariant-loop-element : goal.invariant-loop-element
invariant-loop-element l = elements_of l.lists.items ≡ take l.element-index l.elements
