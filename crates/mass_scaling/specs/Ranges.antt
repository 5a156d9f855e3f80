-- For proofs alone: ranges of masses of ions, and the masses whose copies lie in one.
use Rattle.std.specs.Prelude.{ℕ, ℤ, pos, ◌*◌, ◌≤◌, ◌≤ℤ◌, ◌↔◌}
use Rattle.mass_scaling.specs.declared.windows.Window.{Window}

-- a mass lies from low to high, both included
abbrev pub Lies : ℤ → ℤ → ℤ → Type 0
Lies mass low high = (low ≤ℤ mass) × (mass ≤ℤ high)

-- the window holds exactly the masses above 0 of which so many copies lie from low to high
abbrev pub HoldsMultiples : ℕ → ℤ → ℤ → Window → Type 0
HoldsMultiples copies low high window =
    (mass : ℕ) → 1 ≤ mass → Lies (pos (copies * mass)) low high ↔ ((window.lo ≤ mass) × (mass ≤ window.hi))
