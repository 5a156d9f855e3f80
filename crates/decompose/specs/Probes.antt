-- For proofs alone: scaled windows, and the table of residues that tells where they can be reached.
use Rattle.std.specs.Prelude.{ℕ, zero, suc, ◌≡◌, ◌-◌, ◌*◌, ◌<◌, ◌≤◌, ◌^◌, true, false, List, [], ◌∷◌, length, drop}
use Rattle.mass_scaling.specs.declared.windows.Window.{Window}
use Rattle.mass_scaling.specs.Masses.{mass_of}
use Rattle.mass_scaling.specs.Scales.{Scaling, AreScaled, IsScaleOf, scaled_of}
use Rattle.decompose.specs.Enumeration.{is_within}
use Rattle.decompose.specs.Levels.{masses_of, scaled_masses_of, window_less}
use Rattle.decompose.specs.declared.levels.Symbol.{Symbol}
use Rattle.decompose.specs.declared.levels.Level.{Level}

-- a scaled window of a window: each count list whose mass is in the window has its scaled mass in the scaled one, and
-- each whose mass is not above the window has its scaled mass not above the scaled one
pub record IsScaledWindow (symbols : List Symbol) (window scaled : Window) : Type 0 where
  pub keeps : (counts : List ℕ) → is_within window (mass_of (masses_of symbols) counts) ≡ true →
      is_within scaled (mass_of (scaled_masses_of symbols) counts) ≡ true
  pub keeps_below : (counts : List ℕ) → mass_of (masses_of symbols) counts ≤ window.hi →
      mass_of (scaled_masses_of symbols) counts ≤ scaled.hi
  pub not_empty : scaled.lo ≤ scaled.hi
  pub in_range : scaled.hi < 2 ^ 63

-- some count list over these symbols has its scaled mass in a scaled window
abbrev pub IsFilled : List Symbol → Window → Type 0
IsFilled symbols scaled =
    (counts : List ℕ) × (length counts ≡ length symbols)
    × (is_within scaled (mass_of (scaled_masses_of symbols) counts) ≡ true)

-- a table of residues knows these symbols: its last scaled masses are theirs
pub record KnowsScaled (residues : List ℕ) (symbols : List Symbol) : Type 0 where
  pub at_most : length symbols ≤ length residues
  pub last : drop (length residues - length symbols) residues ≡ scaled_masses_of symbols

-- no count list over these symbols has its mass in the window
abbrev pub HasNoList : List Symbol → Window → Type 0
HasNoList symbols window = (counts : List ℕ) → is_within window (mass_of (masses_of symbols) counts) ≡ false

-- what the levels before a place leave of a scaled window
abbrev pub scaled_at : List Symbol → List Level → Window → ℕ → Window
scaled_at symbols levels scaled zero = scaled
scaled_at [] levels scaled (suc place) = scaled
scaled_at (s ∷ ss) [] scaled (suc place) = scaled
scaled_at (s ∷ ss) (v ∷ vs) scaled (suc place) = scaled_at ss vs (window_less scaled (v.count * s.scaled)) place

-- the tables of an alphabet: its masses, its scale, and a table of residues of the scaled masses
pub record AreTables (masses : List ℕ) (scale : Scaling) (residues : List ℕ) : Type 0 where
  pub scale_is : IsScaleOf masses scale
  pub scaled_ok : AreScaled scale.scaled
  pub residues_are : residues ≡ scaled_of masses
