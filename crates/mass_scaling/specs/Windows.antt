-- The masses whose ions are within tolerance of a measured m/z. All are in 10^-12 Da.
use Rattle.std.specs.Prelude.{ℕ, ℤ, pos, ◌*◌, ◌<◌, ◌≤◌, ◌↔◌, ◌+ℤ◌}
use Rattle.mass_scaling.specs.declared.tolerances.Tolerance.{Tolerance}
use Rattle.mass_scaling.specs.declared.windows.Charged.{Charged}
use Rattle.mass_scaling.specs.declared.windows.Window.{Window}
use Rattle.mass_scaling.specs.Tolerances.{Within}

-- a window of masses: it begins above 0, and its ends are in order
pub record IsWindow (window : Window) : Type 0 where
  pub above_zero : 1 ≤ window.lo
  pub not_empty : window.lo ≤ window.hi

-- the mass of the ion of a formula with this mass: that of its copies and what the adduct adds
abbrev pub ion_mass : Charged → ℕ → ℤ
ion_mass ion mass = pos (ion.copies * mass) +ℤ ion.shift

-- a mass whose ion is within tolerance of a measured m/z
abbrev pub IsMassWithin : ℕ → Tolerance → Charged → ℕ → Type 0
IsMassWithin mz tolerance ion mass = Within (ion_mass ion mass) mz tolerance ion.divisor

-- the window from the least to the greatest mass above 0 whose ion is within tolerance: its ends are such
-- masses, none below or above it is one, and each mass between them is one
pub record IsWindowOf (mz : ℕ) (tolerance : Tolerance) (ion : Charged) (window : Window) : Type 0 where
  pub lo_within : IsMassWithin mz tolerance ion window.lo
  pub hi_within : IsMassWithin mz tolerance ion window.hi
  pub none_below : (mass : ℕ) → 1 ≤ mass → mass < window.lo → ¬ IsMassWithin mz tolerance ion mass
  pub none_above : (mass : ℕ) → window.hi < mass → ¬ IsMassWithin mz tolerance ion mass
  pub all_between : (mass : ℕ) → window.lo ≤ mass → mass ≤ window.hi → IsMassWithin mz tolerance ion mass

-- no mass above 0 has an ion within tolerance
abbrev pub NoMassIsWithin : ℕ → Tolerance → Charged → Type 0
NoMassIsWithin mz tolerance ion = (mass : ℕ) → 1 ≤ mass → ¬ IsMassWithin mz tolerance ion mass

-- a mass or a number that a window holds, both ends included
abbrev pub Holds : Window → ℕ → Type 0
Holds window mass = (window.lo ≤ mass) × (mass ≤ window.hi)

-- the window holds exactly these masses or numbers
abbrev pub HoldsExactly : Window → (ℕ → Type 0) → Type 0
HoldsExactly window IsOne = (mass : ℕ) → IsOne mass ↔ Holds window mass
