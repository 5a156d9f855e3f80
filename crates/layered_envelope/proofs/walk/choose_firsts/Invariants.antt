use Rattle.std.proofs.Common.{◌≡◌, ◌-◌, ◌++◌, take, replicate}
use Rattle.layered_envelope.specs.Walks.{places_of, IsWalkTo}
use Rattle.layered_envelope.proofs.walk.choose_firsts.Given as goal

abbrev pub invariant-loop-later : goal.invariant-loop-later
invariant-loop-later l =
    IsWalkTo l.later l.lists l.choices
    × (take l.later (places_of l.choices)
    ≡ take l.element (places_of l.initial.choices) ++ replicate (l.later - l.element) 0)
