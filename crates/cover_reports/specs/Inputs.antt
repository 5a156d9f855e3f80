-- What holds of the mass that an ion's charge adds.
use Rattle.std.specs.Prelude.{ℕ, ◌*◌, ℤ, ◌≤◌, unsigned_abs}
use Rattle.mass_scaling.specs.declared.limits.TheConstants.{MAX_DIVISOR}
use Rattle.element_table.specs.Limits.{max_electron_mass}

-- the mass of at most 30 electrons, each of at most 0.001 Da, in 10^-12 Da
abbrev pub max_electron_shift : ℕ
max_electron_shift = MAX_DIVISOR * max_electron_mass

-- at most so much is added to the mass of an ion's isotopologue, or taken off it
abbrev pub IsElectronShift : ℤ → Type 0
IsElectronShift shift = unsigned_abs shift ≤ max_electron_shift
