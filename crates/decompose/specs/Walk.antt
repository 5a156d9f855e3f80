-- For proofs alone: where the walk over the count lists of a window stands, and what it finds.
use Rattle.std.specs.Prelude.{ℕ, zero, suc, ◌≡◌, Bool, List, [], ◌∷◌, length, All, Option, Some, None, IfSome}
use Rattle.std.specs.Prelude.{MatchBool, MatchOption}
use Rattle.std.specs.List.{find}
use Rattle.mass_scaling.specs.declared.windows.Window.{Window}
use Rattle.decompose.specs.CountLists.{box_of}
use Rattle.decompose.specs.Search.{IsEnumeration, enumeration, is_left}
use Rattle.mass_scaling.specs.Scales.{scaled_of}
use Rattle.decompose.specs.Levels.{IsSymbol, IsLevel, AreLevels, masses_of, scaled_masses_of, limits_of, counts_of}
use Rattle.decompose.specs.Probes.{HasNoList, IsScaledWindow}
use Rattle.decompose.specs.StepBounds.{HasNoScaledWindow, IsScaledWindowOf}
use Rattle.decompose.specs.declared.limits.Limit.{Limit}
use Rattle.decompose.specs.declared.levels.Symbol.{Symbol}
use Rattle.decompose.specs.declared.levels.Level.{Level}

-- the limits, but the first count goes from this one on
abbrev pub limits_from : ℕ → List Limit → List Limit
limits_from count [] = []
limits_from count (l ∷ ls) = record { low = count; high = l.high } ∷ ls

-- the first list whose mass is in the window, from this count of the first symbol on, stands in the levels
-- behind the call; or there is none, and the levels are as before it
abbrev pub FindsFirst : List Symbol → ℕ → Window → Bool → List Level → List Level → Type 0
FindsFirst symbols count window found before after =
    MatchBool found
    ((find (is_left (masses_of symbols) window None) (box_of (limits_from count (limits_of symbols)))
    ≡ Some (counts_of after)) × AreLevels symbols window after)
    ((find (is_left (masses_of symbols) window None) (box_of (limits_from count (limits_of symbols))) ≡ None)
    × (after ≡ before))

-- the walk stands at so many levels: they are levels of the symbols, and no list that has their counts comes after
-- the counts of all levels and has its mass in the window
abbrev pub StandsAt : List Symbol → Window → List Level → ℕ → Type 0
StandsAt symbols window levels zero =
    find (is_left (masses_of symbols) window (Some (counts_of levels))) (box_of (limits_of symbols)) ≡ None
StandsAt [] window levels (suc depth) = ⊥
StandsAt (s ∷ ss) window [] (suc depth) = ⊥
StandsAt (s ∷ ss) window (v ∷ vs) (suc depth) = IsLevel s.mass window v × StandsAt ss v.left vs depth

-- the list given last: the counts of the levels, once the walk stands at some
abbrev pub given_of : Option ℕ → List ℕ → Option (List ℕ)
given_of None counts = None
given_of (Some depth) counts = Some counts

-- what a walk over these masses keeps: a symbol for each, a level for each symbol, the window of scaled masses, and,
-- once a list was given, where the walk stands
pub record IsWalk (masses : List ℕ) (symbols : List Symbol) (window : Window) (scaled : Option Window)
    (levels : List Level) (stands : Option ℕ) : Type 0 where
  pub masses_are : masses_of symbols ≡ masses
  pub scaled_are : scaled_masses_of symbols ≡ scaled_of masses
  pub symbols_ok : All IsSymbol symbols
  pub one_level_each : length levels ≡ length symbols
  pub enumerates : IsEnumeration (enumeration masses (limits_of symbols) window (given_of stands (counts_of levels)))
  pub scaled_window : MatchOption scaled (HasNoList symbols window) (IsScaledWindow symbols window)
  pub exact : MatchOption scaled (HasNoScaledWindow masses window) (IsScaledWindowOf masses window)
  pub stands_at : IfSome stands (StandsAt symbols window levels)
