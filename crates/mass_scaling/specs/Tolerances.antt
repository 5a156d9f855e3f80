-- When the mass of an ion is within tolerance of a measured m/z. Masses and m/z are in 10^-12 Da.
use Rattle.std.specs.Prelude.{ℕ, ℤ, pos, ◌*◌, ◌^◌, ◌-ℤ◌, ◌*ℤ◌, unsigned_abs, nat_le, int_le, Bool, IsTrue}
use Rattle.mass_scaling.specs.declared.tolerances.Tolerance.{Tolerance}
use Rattle.mass_scaling.specs.declared.tolerances.Tolerance.TheVariants.{Ppm, Da, PpmCalculated}

-- how far the mass of an ion is from the one that its m/z and its number of charges give
abbrev pub distance : ℤ → ℕ → ℕ → ℕ
distance ion mz divisor = unsigned_abs (ion -ℤ pos (divisor * mz))

-- whether the mass of an ion is within tolerance of a measured m/z, with its number of charges as the divisor:
-- the distance is at most so many 10^-9 of the measured mass, so many units for each charge, or so many 10^-9
-- of the ion's own mass, where the ion has to weigh more than nothing
abbrev pub within : ℤ → ℕ → Tolerance → ℕ → Bool
within ion mz (Ppm thousandths) divisor =
    nat_le (distance ion mz divisor * 10 ^ 9) (divisor * mz * thousandths)
within ion mz (Da units) divisor = nat_le (distance ion mz divisor) (divisor * units)
within ion mz (PpmCalculated thousandths) divisor =
    int_le (pos (distance ion mz divisor * 10 ^ 9)) (ion *ℤ pos thousandths)

-- the mass of an ion is within tolerance
abbrev pub Within : ℤ → ℕ → Tolerance → ℕ → Type 0
Within ion mz tolerance divisor = IsTrue (within ion mz tolerance divisor)
