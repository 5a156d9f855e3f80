-- Numbers in units of 10^-18 that enclose a probability, and how they are rounded.
use Rattle.std.specs.Prelude.{ℕ, ◌*◌, ◌/◌, ◌^◌, ◌≤◌, List, fold}
use Rattle.std.specs.Int.{div_ceil}

-- probability 1, in units of 10^-18
abbrev pub certainty : ℕ
certainty = 10 ^ 18

-- a quotient by floor, and by ceiling
abbrev pub floor_of : ℕ → ℕ → ℕ
floor_of a b = a / b

abbrev pub ceiling_of : ℕ → ℕ → ℕ
ceiling_of a b = div_ceil a b

-- The probability `part / whole` lies from `lo` to `hi`, in units of 10^-18: above 0, since every
-- isotopologue is possible, and at most 1.
pub record IsEnclosure (lo hi part whole : ℕ) : Type 0 where
  pub ordered : lo ≤ hi
  pub positive : 1 ≤ hi
  pub at_most_one : hi ≤ certainty
  pub from_below : lo * whole ≤ certainty * part
  pub from_above : certainty * part ≤ hi * whole

-- The product of bounds in their order, rounded after each factor: by `floor_of` for lower bounds,
-- by `ceiling_of` for upper ones. It starts at 1, which changes no first factor.
unfoldable pub product_of : (ℕ → ℕ → ℕ) → List ℕ → ℕ
product_of round bounds = fold (λ product bound. round (product * bound) certainty) certainty bounds
