use Rattle.std.proofs.Common.{◌≡◌, ◌+◌, ◌≤◌, [], drop, length}
use Rattle.layered_envelope.specs.ChosenPlaces.{above_after}
use Rattle.layered_envelope.specs.Walks.{upper, his_of, reached, places_of}
use Rattle.layered_envelope.proofs.walk.advance.Given as goal

abbrev pub invariant-loop-element : goal.invariant-loop-element
invariant-loop-element g l =
    (l.choices ≡ l.initial.choices) × (l.steps + l.element ≤ l.initial.steps + length l.lists)
    × (above_after upper l.threshold (reached upper (his_of l.lists) (places_of l.choices) l.element)
    (drop l.element (his_of l.lists)) (drop l.element (places_of l.choices)) ≡ [])
