use Rattle.std.proofs.Common.{◌≡◌, take}
use Rattle.layered_envelope.specs.Walks.{places_of}
use Rattle.layered_envelope.proofs.members.write_places.Given as goal

abbrev pub invariant-loop-element : goal.invariant-loop-element
invariant-loop-element l = take l.element l.places ≡ take l.element (places_of l.choices)
