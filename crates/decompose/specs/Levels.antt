-- For proofs alone: the levels of the walk over the count lists of a window.
use Rattle.std.specs.Prelude.{ℕ, zero, suc, ◌≡◌, ◌-◌, ◌*◌, ◌<◌, ◌≤◌, false, List, [], ◌∷◌, map}
use Rattle.std.specs.List.{zip}
use Rattle.mass_scaling.specs.declared.windows.Window.{Window}
use Rattle.mass_scaling.specs.declared.limits.TheConstants.{MAX_SCALED_MASS}
use Rattle.decompose.specs.CountLists.{IsLimit}
use Rattle.decompose.specs.Enumeration.{is_within}
use Rattle.decompose.specs.declared.limits.Limit.{Limit}
use Rattle.decompose.specs.declared.levels.Symbol.{Symbol}
use Rattle.decompose.specs.declared.levels.Level.{Level}

-- the masses of symbols, their scaled masses, and the limits of their counts
abbrev pub masses_of : List Symbol → List ℕ
masses_of symbols = map (λ symbol. symbol.mass) symbols

abbrev pub scaled_masses_of : List Symbol → List ℕ
scaled_masses_of symbols = map (λ symbol. symbol.scaled) symbols

abbrev pub limits_of : List Symbol → List Limit
limits_of symbols = map (λ symbol. symbol.limit) symbols

-- a symbol for each mass, scaled mass and limit
abbrev pub symbols_of : List ℕ → List ℕ → List Limit → List Symbol
symbols_of masses scaled limits =
    map (λ p. record { mass = p.0.0; scaled = p.0.1; limit = p.1 }) (zip (zip masses scaled) limits)

-- a symbol: it has a mass above 0, a scaled mass of at most 10^11 grains, and a limit
pub record IsSymbol (symbol : Symbol) : Type 0 where
  pub positive : 0 < symbol.mass
  pub scaled_in_range : symbol.scaled ≤ MAX_SCALED_MASS
  pub limit : IsLimit symbol.limit

-- a level for each count, below the whole window
abbrev pub levels_of : Window → List ℕ → List Level
levels_of window counts = map (λ count. record { count = count; left = window }) counts

-- the counts of levels
abbrev pub counts_of : List Level → List ℕ
counts_of levels = map (λ level. level.count) levels

-- what is left of a window below a mass
abbrev pub window_less : Window → ℕ → Window
window_less window taken = record { lo = window.lo - taken; hi = window.hi - taken }

-- a level of a symbol of this mass, below a window: the mass of its atoms is not above the window, and the level
-- has what they leave of it
pub record IsLevel (mass : ℕ) (window : Window) (level : Level) : Type 0 where
  pub fits : level.count * mass ≤ window.hi
  pub rest : level.left ≡ window_less window (level.count * mass)

-- no count within the symbol's limit has its mass in the window
abbrev pub NoneIsWithin : Symbol → Window → Type 0
NoneIsWithin symbol window =
    (k : ℕ) → symbol.limit.low ≤ k → k ≤ symbol.limit.high → is_within window (k * symbol.mass) ≡ false

-- the level has the least count within the symbol's limit whose mass is in the window
pub record IsFirstWithin (symbol : Symbol) (window : Window) (level : Level) : Type 0 where
  pub not_below : symbol.limit.low ≤ level.count
  pub not_above : level.count ≤ symbol.limit.high
  pub is_level : IsLevel symbol.mass window level
  pub within : level.left.lo ≡ 0
  pub skipped : (k : ℕ) → symbol.limit.low ≤ k → k < level.count → is_within window (k * symbol.mass) ≡ false

-- levels of symbols, below a window: each lies below what is left by the one before it
abbrev pub AreLevels : List Symbol → Window → List Level → Type 0
AreLevels [] window [] = Unit {0}
AreLevels [] window (v ∷ vs) = ⊥
AreLevels (s ∷ ss) window [] = ⊥
AreLevels (s ∷ ss) window (v ∷ vs) = IsLevel s.mass window v × AreLevels ss v.left vs

-- what the levels before a place leave of a window
abbrev pub window_at : Window → List Level → ℕ → Window
window_at window levels zero = window
window_at window [] (suc place) = window
window_at window (v ∷ vs) (suc place) = window_at v.left vs place
