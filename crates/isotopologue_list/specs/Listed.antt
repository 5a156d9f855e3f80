-- Counts of one element with the bounds of their probabilities, in units of 10^-18.
use Rattle.std.specs.Prelude.{ℕ, List}
use Rattle.multinomial_bounds.specs.Bounds.{floor_of, ceiling_of}
use Rattle.multinomial_bounds.specs.Path.{bound_of}

-- counts of one element's isotopes, with the bounds of their probability
pub record BoundedCounts : Type 0 where
  pub counts : List ℕ
  pub lo : ℕ
  pub hi : ℕ

-- the counts of an element of these weights, with their bounds
unfoldable pub bounded_counts : List ℕ → List ℕ → BoundedCounts
bounded_counts weights counts =
    record { counts = counts; lo = bound_of floor_of weights counts; hi = bound_of ceiling_of weights counts }
