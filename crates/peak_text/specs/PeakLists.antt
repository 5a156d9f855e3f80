-- Peak lists: a peak is the pair of its m/z, in 10^-12 Da, and its intensity, in 10^-6.
use Rattle.std.specs.Prelude.{ℕ, ◌≡◌, ◌≤◌, Bool, ◌&&◌, nat_le, List, length, All, if◌then◌else◌, Option, Some, None}
use Rattle.std.specs.List.{list_all, zip}
use Rattle.peak_text.specs.Limits.{max_mz, max_intensity, max_peaks}

-- an m/z above 0 and at most 20,000 Da, and an intensity of at most 10^12
pub record IsPeak (peak : ℕ × ℕ) : Type 0 where
  pub mz_from : 1 ≤ peak.0
  pub mz_to : peak.0 ≤ max_mz
  pub intensity_to : peak.1 ≤ max_intensity

-- at most 10,000 peaks
pub record ArePeaks (peaks : List (ℕ × ℕ)) : Type 0 where
  pub few : length peaks ≤ max_peaks
  pub each : All IsPeak peaks

-- a column of m/z and one of intensities, as long, which are peaks
pub record AreColumns (mz intensity : List ℕ) : Type 0 where
  pub as_long : length intensity ≡ length mz
  pub sound : ArePeaks (zip mz intensity)

-- whether a pair is a peak
abbrev pub is_peak : ℕ × ℕ → Bool
is_peak peak = nat_le 1 peak.0 && nat_le peak.0 max_mz && nat_le peak.1 max_intensity

-- whether pairs are at most 10,000 peaks
abbrev pub are_peaks : List (ℕ × ℕ) → Bool
are_peaks pairs = nat_le (length pairs) max_peaks && list_all is_peak pairs

-- the pairs where they are at most 10,000 peaks
abbrev pub peaks_in : List (ℕ × ℕ) → Option (List (ℕ × ℕ))
peaks_in pairs = if are_peaks pairs then Some pairs else None
