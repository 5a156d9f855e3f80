use Rattle.std.proofs.Common.{◌≡◌}
use Rattle.layered_envelope.specs.Walks.{lower, upper, los_of, his_of, reached}
use Rattle.layered_envelope.proofs.places.product_at.Given as goal

abbrev pub invariant-loop-element : goal.invariant-loop-element
invariant-loop-element l =
    (l.product.lo ≡ reached lower (los_of l.lists) l.places l.element)
    × (l.product.hi ≡ reached upper (his_of l.lists) l.places l.element)
