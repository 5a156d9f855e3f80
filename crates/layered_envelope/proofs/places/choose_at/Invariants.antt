use Rattle.std.proofs.Common.{◌≡◌, take}
use Rattle.layered_envelope.specs.Walks.{places_of, IsWalkTo}
use Rattle.layered_envelope.proofs.places.choose_at.Given as goal

abbrev pub invariant-loop-element : goal.invariant-loop-element
invariant-loop-element l =
    IsWalkTo l.element l.lists l.choices × (take l.element (places_of l.choices) ≡ take l.element l.places)
