use Rattle.std.proofs.Common.{◌≡◌, ◌≤◌, drop, fold}
use Rattle.multinomial_bounds.specs.Bounds.{certainty}
use Rattle.layered_envelope.specs.Walks.{upper}
use Rattle.layered_envelope.proofs.walk.is_above.Given as goal

abbrev pub invariant-loop-mode : goal.invariant-loop-mode
invariant-loop-mode g l =
    (l.product ≤ certainty) × (l.factor ≤ certainty)
    × (fold upper (upper l.product l.factor) (drop l.mode-index l.later) ≡ fold upper (upper l.before l.item) l.later)
