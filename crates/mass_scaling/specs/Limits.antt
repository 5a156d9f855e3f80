-- The limits of measured values and ions. Masses and m/z are in 10^-12 Da, ppm in 10^-3 ppm.
use Rattle.std.specs.Prelude.{ℕ, ℤ, ◌≤◌, unsigned_abs}
use Rattle.mass_scaling.specs.declared.limits.TheConstants.{MAX_MZ, MAX_PPM, MAX_DA, MAX_DIVISOR, MAX_COPIES}
use Rattle.mass_scaling.specs.declared.limits.TheConstants.{MAX_ION_MASS}
use Rattle.mass_scaling.specs.declared.tolerances.Tolerance.{Tolerance}
use Rattle.mass_scaling.specs.declared.tolerances.Tolerance.TheVariants.{Ppm, Da, PpmCalculated}
use Rattle.mass_scaling.specs.declared.windows.Charged.{Charged}

-- a tolerance: at most 1,000 ppm or 10 Da
abbrev pub IsTolerance : Tolerance → Type 0
IsTolerance (Ppm thousandths) = thousandths ≤ MAX_PPM
IsTolerance (Da units) = units ≤ MAX_DA
IsTolerance (PpmCalculated thousandths) = thousandths ≤ MAX_PPM

-- the mass of an ion, or what an adduct adds to it: at most 9,000,000 Da above or below 0
abbrev pub IsIonMass : ℤ → Type 0
IsIonMass mass = unsigned_abs mass ≤ MAX_ION_MASS

-- a measured m/z above 0, its tolerance, and the number of charges of the ions that it is held against
pub record AreMeasured (mz : ℕ) (tolerance : Tolerance) (divisor : ℕ) : Type 0 where
  pub above_zero : 1 ≤ mz
  pub mz_in_range : mz ≤ MAX_MZ
  pub tolerance_in_range : IsTolerance tolerance
  pub charged : 1 ≤ divisor
  pub divisor_in_range : divisor ≤ MAX_DIVISOR

-- the ions of an adduct: 1 to 4 copies of a formula, 1 to 30 charges, and a mass added or lost
pub record IsCharged (ion : Charged) : Type 0 where
  pub some_copies : 1 ≤ ion.copies
  pub copies_in_range : ion.copies ≤ MAX_COPIES
  pub charged : 1 ≤ ion.divisor
  pub divisor_in_range : ion.divisor ≤ MAX_DIVISOR
  pub shift_in_range : IsIonMass ion.shift
