-- What holds of the m/z that were read.
use Rattle.std.specs.Prelude.{ℕ, ◌≤◌}
use Rattle.mass_scaling.specs.declared.limits.TheConstants.{MAX_MZ}

-- an m/z above 0 and at most 20,000 Da
pub record IsMz (mz : ℕ) : Type 0 where
  pub above_zero : 1 ≤ mz
  pub in_range : mz ≤ MAX_MZ
