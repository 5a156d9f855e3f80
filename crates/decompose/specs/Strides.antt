-- For proofs alone: how remainders by a mass go on as a heavier mass is taken off again and again.
use Rattle.std.specs.Prelude.{ℕ, ◌≡◌, ◌-◌, ◌*◌, ◌%◌, ◌^◌, ◌<◌, ◌≤◌, ◌⊎◌, min, List, [], ◌∷◌}
use Rattle.decompose.specs.declared.levels.Symbol.{Symbol}
use Rattle.decompose.specs.declared.strides.Strides.{Strides}
use Rattle.decompose.specs.declared.strides.Leap.{Leap}

-- the fall is a remainder, and the inverse is at most that of the lesser of fall and rise
pub record AreStrides (s : Strides) : Type 0 where
  pub positive : 0 < s.mass
  pub below : s.fall < s.mass
  pub inverse : s.inverse * min s.fall (s.mass - s.fall) < 2 ^ 64

-- the strides by a mass, as a heavier one is taken off
pub record AreStridesOf (heavier lighter : ℕ) (s : Strides) : Type 0 where
  pub are : AreStrides s
  pub mass : s.mass ≡ lighter
  pub fall : s.fall ≡ heavier % lighter

-- the strides of the last two symbols, where there are two
abbrev pub KnowsStrides : List Symbol → Strides → Type 0
KnowsStrides [] s = Unit {0}
KnowsStrides (a ∷ []) s = Unit {0}
KnowsStrides (a ∷ b ∷ []) s = AreStridesOf a.mass b.mass s
KnowsStrides (a ∷ b ∷ c ∷ cs) s = KnowsStrides (b ∷ c ∷ cs) s

-- each remainder but the first of those that a leap goes over is above the width, and so is the first where there are
-- others; the last is the one that the leap ends with
pub record LeapsOver (s : Strides) (remainder width : ℕ) (leap : Leap) : Type 0 where
  pub above : (heavier number j : ℕ) → heavier % s.mass ≡ s.fall → number % s.mass ≡ remainder → j ≤ leap.times →
      j * heavier ≤ number → ((j ≡ 0) ⊎ (width < (number - j * heavier) % s.mass))
  pub last : (heavier number : ℕ) → heavier % s.mass ≡ s.fall → number % s.mass ≡ remainder →
      leap.times * heavier ≤ number → (number - leap.times * heavier) % s.mass ≡ leap.remainder
  pub below : leap.remainder < s.mass
