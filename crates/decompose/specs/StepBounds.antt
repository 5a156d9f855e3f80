-- How many steps an enumeration takes to its next count list: each step is one probe of the table of residues.
use Rattle.std.specs.Prelude.{ℕ, ◌+◌, ◌*◌, ◌/◌, ◌≤◌, ◌&&◌, List, Option, length, filter, replicate}
use Rattle.mass_scaling.specs.Masses.{base_of, mass_of}
use Rattle.mass_scaling.specs.Scales.{IsInScaledWindow, scaled_of}
use Rattle.mass_scaling.specs.Windows.{HoldsExactly}
use Rattle.mass_scaling.specs.declared.windows.Window.{Window}
use Rattle.decompose.specs.CountLists.{box_of, follows, is_up_to}
use Rattle.decompose.specs.Enumeration.{is_within}

-- the scaled window of a window of mass: it holds exactly the scaled masses that count lists of the window can have
pub record IsScaledWindowOf (masses : List ℕ) (window scaled : Window) : Type 0 where
  pub exact : HoldsExactly scaled (IsInScaledWindow masses window)
  pub not_empty : scaled.lo ≤ scaled.hi

-- a window of mass has no scaled window
abbrev pub HasNoScaledWindow : List ℕ → Window → Type 0
HasNoScaledWindow masses window = (number : ℕ) → ¬ IsInScaledWindow masses window number

-- the greatest whole number whose product with the least scaled mass is at most the upper end of a scaled window
abbrev pub most_atoms : List ℕ → Window → ℕ
most_atoms masses scaled = scaled.hi / base_of (scaled_of masses)

-- all lists of so many counts from 0 to a most, in lexicographic order
abbrev pub lists_up_to : ℕ → ℕ → List (List ℕ)
lists_up_to n most = box_of (replicate n (record { low = 0; high = most }))

-- how many lists of counts from 0 upwards, one count for each mass and without upper limits, have their scaled mass in
-- the scaled window, come after the one list and not after the other. No count of such a list is above the most atoms
-- that the scaled window has room for.
abbrev pub number_between : List ℕ → Window → Option (List ℕ) → Option (List ℕ) → ℕ
number_between masses scaled after upto =
    length (filter
    (λ cs. is_within scaled (mass_of (scaled_of masses) cs) && (follows after cs && is_up_to upto cs))
    (lists_up_to (length masses) (most_atoms masses scaled)))

-- the most steps from one list to another, or from the start, or to the end
abbrev pub most_steps : List ℕ → Window → Option (List ℕ) → Option (List ℕ) → ℕ
most_steps masses scaled after upto =
    length masses * (most_atoms masses scaled + 1) * (number_between masses scaled after upto + 1)
