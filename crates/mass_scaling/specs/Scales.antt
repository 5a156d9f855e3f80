-- The masses of an alphabet counted in whole grains, and the numbers of grains that the count lists of a window of
-- mass can weigh. Masses and grains are in 10^-12 Da.
use Rattle.std.specs.Prelude.{◌≡◌, ℕ, ◌*◌, ◌/◌, ◌^◌, ◌<◌, ◌≤◌, Bool, nat_le, List, length, map, slice_index, All}
use Rattle.std.specs.Prelude.{AllPairs, if◌then◌else◌}
use Rattle.mass_scaling.specs.declared.limits.TheConstants.{MAX_MASSES, MAX_BASE_MASS, MAX_SCALED_BASE, MAX_SCALED_MASS}
use Rattle.mass_scaling.specs.declared.windows.Window.{Window}
use Rattle.mass_scaling.specs.Masses.{AreMasses, base_of}

-- whether a least mass is at most 1,000,000 grains, rounded down
abbrev pub is_coarse_enough : ℕ → ℕ → Bool
is_coarse_enough base grain = nat_le (base / grain) MAX_SCALED_BASE

-- the grain for a least mass: the finest of 10^-5, 10^-4 and 10^-3 Da that is coarse enough
abbrev pub grain_for : ℕ → ℕ
grain_for base =
    if is_coarse_enough base (10 ^ 7) then 10 ^ 7 else (if is_coarse_enough base (10 ^ 8) then 10 ^ 8 else 10 ^ 9)

-- the scaled masses of an alphabet: how many whole grains each mass has
abbrev pub scaled_of : List ℕ → List ℕ
scaled_of masses = map (λ m. m / grain_for (base_of masses)) masses

-- a scale: its grain, and the scaled masses of an alphabet
pub record Scaling : Type 0 where
  pub grain : ℕ
  pub scaled : List ℕ

-- the scale of an alphabet whose last mass is at most 400 Da
pub record IsScaleOf (masses : List ℕ) (scale : Scaling) : Type 0 where
  pub are_masses : AreMasses masses
  pub light_enough : base_of masses ≤ MAX_BASE_MASS
  pub grain : scale.grain ≡ grain_for (base_of masses)
  pub scaled : scale.scaled ≡ scaled_of masses

-- 1 to 20 scaled masses, falling or equal, the last from 1 to 1,000,000, each at most 10^11
pub record AreScaled (scaled : List ℕ) : Type 0 where
  pub some : 1 ≤ length scaled
  pub few : length scaled ≤ MAX_MASSES
  pub falling : AllPairs (λ m n. n ≤ m) scaled
  pub upper_limit : All (λ m. m ≤ MAX_SCALED_MASS) scaled
  pub base_above_zero : 1 ≤ base_of scaled
  pub base_in_range : base_of scaled ≤ MAX_SCALED_BASE

-- a place of the least ratio of the first list's number to the second's
pub record IsLeastRatio (xs ys : List ℕ) (place : ℕ) : Type 0 where
  pub within : place < length xs
  pub least : (i : ℕ) → i < length xs →
      slice_index xs place * slice_index ys i ≤ slice_index xs i * slice_index ys place

-- a place of the greatest ratio, which is one of the least ratio the other way round
abbrev pub IsGreatestRatio : List ℕ → List ℕ → ℕ → Type 0
IsGreatestRatio xs ys place = IsLeastRatio ys xs place

-- A number of the scaled window. With m and a the masses and the scaled masses, u a place of the least and v one of
-- the greatest ratio of m to a, it is a number A with A * m_v ≥ lo * a_v and A * m_u ≤ hi * a_u.
pub record IsInScaledWindow (masses : List ℕ) (window : Window) (number : ℕ) : Type 0 where
  pub not_below : (v : ℕ) × IsGreatestRatio masses (scaled_of masses) v
      × (window.lo * slice_index (scaled_of masses) v ≤ number * slice_index masses v)
  pub not_above : (u : ℕ) × IsLeastRatio masses (scaled_of masses) u
      × (number * slice_index masses u ≤ window.hi * slice_index (scaled_of masses) u)
