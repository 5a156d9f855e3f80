-- Which peak a predicted mass goes to. Masses and m/z are in 10^-12 Da. A peak is the pair of its m/z and its
-- intensity, and its place is that in the peak list, from 0 on.
use Rattle.std.specs.Prelude.{ℕ, ℤ, ◌<◌, ◌≤◌, ◌&&◌, ◌||◌, not, nat_le, Bool, List, length, position, slice_index_or}
use Rattle.std.specs.Prelude.{Option, Some, None}
use Rattle.std.specs.List.{list_all}
use Rattle.mass_scaling.specs.Tolerances.{Within, distance, within}
use Rattle.mass_scaling.specs.declared.tolerances.Tolerance.{Tolerance}

-- the m/z of the peak at a place
abbrev pub mz_at : List (ℕ × ℕ) → ℕ → ℕ
mz_at peaks place = (slice_index_or peaks place (0, 0)).0

-- whether a peak is within tolerance of a mass, and no peak within tolerance is nearer
abbrev pub is_nearest : List (ℕ × ℕ) → ℕ → Tolerance → ℤ → ℕ × ℕ → Bool
is_nearest peaks divisor tolerance mass peak =
    within mass peak.0 tolerance divisor
    && list_all (λ other. not (within mass other.0 tolerance divisor)
    || nat_le (distance mass peak.0 divisor) (distance mass other.0 divisor)) peaks

-- the place of the peak that a mass goes to: of the nearest peaks within tolerance the first; none where no peak is
-- within tolerance
unfoldable pub peak_of : List (ℕ × ℕ) → ℕ → Tolerance → ℤ → Option ℕ
peak_of peaks divisor tolerance mass = position (is_nearest peaks divisor tolerance mass) peaks

-- the peak at the place is within tolerance, none within tolerance is nearer, and none before it is as near
pub record IsPeakOf (peaks : List (ℕ × ℕ)) (divisor : ℕ) (tolerance : Tolerance) (mass : ℤ) (place : ℕ) : Type 0 where
  pub inside : place < length peaks
  pub near : Within mass (mz_at peaks place) tolerance divisor
  pub none_nearer : (k : ℕ) → k < length peaks → Within mass (mz_at peaks k) tolerance divisor
      → distance mass (mz_at peaks place) divisor ≤ distance mass (mz_at peaks k) divisor
  pub first : (k : ℕ) → k < place → Within mass (mz_at peaks k) tolerance divisor
      → distance mass (mz_at peaks place) divisor < distance mass (mz_at peaks k) divisor

-- no peak is within tolerance
abbrev pub HasNoPeak : List (ℕ × ℕ) → ℕ → Tolerance → ℤ → Type 0
HasNoPeak peaks divisor tolerance mass =
    (k : ℕ) → k < length peaks → ¬ Within mass (mz_at peaks k) tolerance divisor

-- the place is that of the peak, or there is none
abbrev pub Outcome : List (ℕ × ℕ) → ℕ → Tolerance → ℤ → Option ℕ → Type 0
Outcome peaks divisor tolerance mass None = HasNoPeak peaks divisor tolerance mass
Outcome peaks divisor tolerance mass (Some place) = IsPeakOf peaks divisor tolerance mass place
