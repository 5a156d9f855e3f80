-- The masses of an alphabet, and the mass of a list of counts over them. Every mass is in 10^-12 Da.
use Rattle.std.specs.Prelude.{ℕ, ◌+◌, ◌-◌, ◌*◌, ◌≤◌, List, [], ◌∷◌, length, slice_index, All, AllPairs}
use Rattle.mass_scaling.specs.declared.limits.TheConstants.{MAX_MASSES, MIN_MASS, MAX_MASS}

-- the masses of an alphabet: 1 to 20 of them, falling or equal, each from 0.5 Da to 1,000,000 Da
pub record AreMasses (masses : List ℕ) : Type 0 where
  pub some : 1 ≤ length masses
  pub few : length masses ≤ MAX_MASSES
  pub lower_limit : All (λ m. MIN_MASS ≤ m) masses
  pub upper_limit : All (λ m. m ≤ MAX_MASS) masses
  pub falling : AllPairs (λ m n. n ≤ m) masses

-- the last mass of an alphabet, which is the least
abbrev pub base_of : List ℕ → ℕ
base_of masses = slice_index masses (length masses - 1)

-- the mass of a list of counts: each count times its mass, summed up
abbrev pub mass_of : List ℕ → List ℕ → ℕ
mass_of [] counts = 0
mass_of (m ∷ ms) [] = 0
mass_of (m ∷ ms) (c ∷ cs) = c * m + mass_of ms cs
