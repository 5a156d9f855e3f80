-- For proofs alone: how an enumeration is kept, and what the search for its next count list looks for.
use Rattle.std.specs.Prelude.{ℕ, ◌≡◌, Bool, ◌&&◌, List, length, All, Option, IfSome}
use Rattle.mass_scaling.specs.declared.windows.Window.{Window}
use Rattle.mass_scaling.specs.Windows.{IsWindow}
use Rattle.mass_scaling.specs.Masses.{mass_of}
use Rattle.decompose.specs.CountLists.{IsLimit, IsInBox, follows}
use Rattle.decompose.specs.Enumeration.{Enumeration, is_within}
use Rattle.decompose.specs.declared.limits.Limit.{Limit}

-- the enumeration that has given this list last, or none yet
abbrev pub enumeration : List ℕ → List Limit → Window → Option (List ℕ) → Enumeration
enumeration masses limits window given =
    record { masses = masses; limits = limits; window = window; given = given }

-- what holds of each enumeration: it has a limit for each mass, its window is one, and the list given last is
-- one of the box
pub record IsEnumeration (e : Enumeration) : Type 0 where
  pub one_limit_each : length e.limits ≡ length e.masses
  pub limits : All IsLimit e.limits
  pub window : IsWindow e.window
  pub given : IfSome e.given (IsInBox e.limits)

-- whether a count list is still to be given: its mass is in the window, and it comes after the last
abbrev pub is_left : List ℕ → Window → Option (List ℕ) → List ℕ → Bool
is_left masses window given counts = is_within window (mass_of masses counts) && follows given counts
