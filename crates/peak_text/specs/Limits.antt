-- The limits of a peak list and of its numbers, each by its name.
use Rattle.std.specs.Prelude.{ℕ}
use Rattle.peak_text.specs.declared.limits.TheConstants.{MAX_MZ, MAX_INTENSITY, MAX_PEAKS}

-- the greatest m/z, 20,000 Da, in 10^-12 Da
abbrev pub max_mz : ℕ
max_mz = MAX_MZ

-- the greatest intensity, 10^12, in 10^-6
abbrev pub max_intensity : ℕ
max_intensity = MAX_INTENSITY

-- the greatest number of peaks
abbrev pub max_peaks : ℕ
max_peaks = MAX_PEAKS
