-- The count lists of a window of mass, and an enumeration of them.
use Rattle.std.specs.Prelude.{ℕ, Bool, ◌&&◌, nat_le, List, Option, Some, None, filter}
use Rattle.mass_scaling.specs.Masses.{mass_of}
use Rattle.decompose.specs.CountLists.{box_of, comes_after}
use Rattle.decompose.specs.declared.limits.Limit.{Limit}
use Rattle.mass_scaling.specs.declared.windows.Window.{Window}

-- whether a mass is in the window, both ends included
abbrev pub is_within : Window → ℕ → Bool
is_within window mass = nat_le window.lo mass && nat_le mass window.hi

-- all count lists of the box whose mass is in the window, in lexicographic order
unfoldable pub vectors : List ℕ → List Limit → Window → List (List ℕ)
vectors masses limits window = filter (λ cs. is_within window (mass_of masses cs)) (box_of limits)

-- those of a list of count lists that come after c in lexicographic order
unfoldable pub lists_after : List (List ℕ) → List ℕ → List (List ℕ)
lists_after list c = filter (λ cs. comes_after c cs) list

-- an enumeration of the count lists of a window: over which masses, limits and window it goes, and
-- the list up to which it has come, if it has begun
pub record Enumeration : Type 0 where
  pub masses : List ℕ
  pub limits : List Limit
  pub window : Window
  pub given : Option (List ℕ)

-- those that come after the list given last, or all where none was given
abbrev pub after_given : List (List ℕ) → Option (List ℕ) → List (List ℕ)
after_given list None = list
after_given list (Some c) = lists_after list c

-- the count lists that an enumeration has left
unfoldable pub left : Enumeration → List (List ℕ)
left e = after_given (vectors e.masses e.limits e.window) e.given
