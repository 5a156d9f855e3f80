use Rattle.std.proofs.Common.{ℕ, ◌<◌, [], length, get_or}
use Rattle.layered_envelope.specs.Walks.{his_of}
use Rattle.layered_envelope.proofs.places.are_places.Given as goal

abbrev pub invariant-loop-element : goal.invariant-loop-element
invariant-loop-element l = (k : ℕ) → k < l.element → get_or l.places k 0 < length (get_or (his_of l.lists) k [])
