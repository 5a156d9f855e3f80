-- The limits of a table and of its numbers, each by its name.
use Rattle.std.specs.Prelude.{ℕ}
use Rattle.element_table.specs.declared.limits.TheConstants.{FULL_ABUNDANCE, MAX_ELEMENTS, MAX_ISOTOPES}
use Rattle.element_table.specs.declared.limits.TheConstants.{MAX_MASS_NUMBER, MAX_VALENCE, MIN_ISOTOPE_MASS}
use Rattle.element_table.specs.declared.limits.TheConstants.{MAX_ISOTOPE_MASS, MIN_ELECTRON_MASS, MAX_ELECTRON_MASS}

-- the weight of an abundance of 1, in units of 10^-12
abbrev pub full_abundance : ℕ
full_abundance = FULL_ABUNDANCE

-- the greatest number of elements of a table
abbrev pub max_elements : ℕ
max_elements = MAX_ELEMENTS

-- the greatest number of isotopes of an element
abbrev pub max_isotopes : ℕ
max_isotopes = MAX_ISOTOPES

-- the greatest mass number
abbrev pub max_mass_number : ℕ
max_mass_number = MAX_MASS_NUMBER

-- the greatest valence
abbrev pub max_valence : ℕ
max_valence = MAX_VALENCE

-- the least mass of an isotope, 0.5 Da, in 10^-12 Da
abbrev pub min_isotope_mass : ℕ
min_isotope_mass = MIN_ISOTOPE_MASS

-- the greatest mass of an isotope, 400 Da, in 10^-12 Da
abbrev pub max_isotope_mass : ℕ
max_isotope_mass = MAX_ISOTOPE_MASS

-- the least mass of the electron, in 10^-12 Da
abbrev pub min_electron_mass : ℕ
min_electron_mass = MIN_ELECTRON_MASS

-- the greatest mass of the electron, 0.001 Da, in 10^-12 Da
abbrev pub max_electron_mass : ℕ
max_electron_mass = MAX_ELECTRON_MASS
