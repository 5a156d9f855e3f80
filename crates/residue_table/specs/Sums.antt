-- The numbers that are sums of whole multiples of scaled masses, and the least of them in a range.
use Rattle.std.specs.Prelude.{◌≡◌, ℕ, ◌+◌, ◌-◌, ◌*◌, ◌<◌, ◌≤◌, List, [], ◌∷◌, length, drop, slice_index, All, AllPairs}
use Rattle.residue_table.specs.declared.residues.TheConstants.{MAX_MASSES, MAX_MODULUS, MAX_SCALED_MASS}

-- the last mass, which is the least
abbrev pub modulus_of : List ℕ → ℕ
modulus_of masses = slice_index masses (length masses - 1)

-- the scaled masses that a table is made of: 1 to 20 of them, falling or equal, the last from 1 to 1,000,000, each
-- at most 10^11
pub record AreScaled (masses : List ℕ) : Type 0 where
  pub some : 1 ≤ length masses
  pub few : length masses ≤ MAX_MASSES
  pub falling : AllPairs (λ m n. n ≤ m) masses
  pub upper_limit : All (λ m. m ≤ MAX_SCALED_MASS) masses
  pub modulus_above_zero : 1 ≤ modulus_of masses
  pub modulus_in_range : modulus_of masses ≤ MAX_MODULUS

-- a sum of whole multiples of the masses: of no mass it is 0, else some multiple of the first and such a sum of the
-- others
abbrev pub IsSum : List ℕ → ℕ → Type 0
IsSum [] value = value ≡ 0
IsSum (m ∷ ms) value = (count : ℕ) × (rest : ℕ) × (value ≡ count * m + rest) × IsSum ms rest

-- a level reaches the sums of whole multiples of so many last masses
abbrev pub Reaches : List ℕ → ℕ → ℕ → Type 0
Reaches masses level value = IsSum (drop (length masses - level) masses) value

-- the least of a range of which something holds, both ends included
pub record IsLeastIn (P : ℕ → Type 0) (lo hi value : ℕ) : Type 0 where
  pub not_below : lo ≤ value
  pub not_above : value ≤ hi
  pub holds : P value
  pub none_before : (other : ℕ) → lo ≤ other → other < value → ¬ P other

-- nothing of a range is reached, both ends included
abbrev pub HoldsNowhereIn : (ℕ → Type 0) → ℕ → ℕ → Type 0
HoldsNowhereIn P lo hi = (value : ℕ) → lo ≤ value → value ≤ hi → ¬ P value

-- something of a range is reached, both ends included
abbrev pub HoldsSomewhereIn : (ℕ → Type 0) → ℕ → ℕ → Type 0
HoldsSomewhereIn P lo hi = (value : ℕ) × (lo ≤ value) × (value ≤ hi) × P value
