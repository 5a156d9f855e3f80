use Rattle.std.proofs.Common.{◌≡◌, take}
use Rattle.layered_envelope.specs.LayerLists.{elements_of, modes_of}
use Rattle.layered_envelope.proofs.lists.modes_of.Given as goal

abbrev pub invariant-loop-list : goal.invariant-loop-list
invariant-loop-list l = l.modes.items ≡ take l.list-index (modes_of (elements_of l.lists))
