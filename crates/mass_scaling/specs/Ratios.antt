-- For proofs alone: two lists of numbers whose ratios are compared.
use Rattle.std.specs.Prelude.{◌≡◌, ℕ, ◌<◌, ◌≤◌, List, length, slice_index}
use Rattle.mass_scaling.specs.declared.limits.TheConstants.{MAX_MASS}

-- two lists of one length, of numbers from 1 to that of the greatest mass
pub record AreRatios (xs ys : List ℕ) : Type 0 where
  pub some : 1 ≤ length xs
  pub same_length : length ys ≡ length xs
  pub above_zero : (i : ℕ) → i < length xs → 1 ≤ slice_index xs i
  pub ys_above_zero : (i : ℕ) → i < length xs → 1 ≤ slice_index ys i
  pub in_range : (i : ℕ) → i < length xs → slice_index xs i ≤ MAX_MASS
  pub ys_in_range : (i : ℕ) → i < length xs → slice_index ys i ≤ MAX_MASS
