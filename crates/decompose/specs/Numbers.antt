-- For proofs alone: how many count lists of a scaled window the walk over some symbols passes.
use Rattle.std.specs.Prelude.{ℕ, zero, suc, ◌+◌, ◌-◌, ◌*◌, ◌≤◌, Bool, ◌&&◌, List, [], ◌∷◌, Option, Some, None, length}
use Rattle.std.specs.Prelude.{filter, if◌then◌else◌}
use Rattle.mass_scaling.specs.Masses.{mass_of}
use Rattle.mass_scaling.specs.declared.windows.Window.{Window}
use Rattle.decompose.specs.CountLists.{follows, is_up_to}
use Rattle.decompose.specs.Enumeration.{is_within}
use Rattle.decompose.specs.StepBounds.{lists_up_to}
use Rattle.decompose.specs.Levels.{scaled_masses_of}
use Rattle.decompose.specs.declared.levels.Symbol.{Symbol}

-- no count of a list of these symbols whose scaled mass is at most this end is above the most
abbrev pub HasRoom : List Symbol → ℕ → ℕ → Type 0
HasRoom [] hi most = Unit {0}
HasRoom (s ∷ ss) hi most = ((count : ℕ) → count * s.scaled ≤ hi → count ≤ most) × HasRoom ss hi most

-- the sum of what a function gives for so many numbers from one on
abbrev pub sum_range : (ℕ → ℕ) → ℕ → ℕ → ℕ
sum_range f from zero = 0
sum_range f from (suc number) = f from + sum_range f (from + 1) number

-- how many lists are in a scaled window, up to one
abbrev pub number_in : List Symbol → Window → ℕ → Option (List ℕ) → ℕ
number_in symbols scaled most upto =
    length (filter (λ cs. is_within scaled (mass_of (scaled_masses_of symbols) cs) && is_up_to upto cs)
    (lists_up_to (length symbols) most))

-- those that begin with a count
abbrev pub number_at : Symbol → List Symbol → Window → ℕ → Option (List ℕ) → ℕ → ℕ
number_at s ss scaled most upto count =
    length (filter
    (λ cs. is_within scaled (mass_of (scaled_masses_of (s ∷ ss)) (count ∷ cs)) && is_up_to upto (count ∷ cs))
    (lists_up_to (length ss) most))

-- those that begin with this count or a greater one
abbrev pub number_from : List Symbol → Window → ℕ → ℕ → Option (List ℕ) → ℕ
number_from [] scaled count most upto = 0
number_from (s ∷ ss) scaled count most upto =
    sum_range (number_at s ss scaled most upto) count (most + 1 - count)

-- those that come after a list
abbrev pub number_after : List Symbol → Window → Option (List ℕ) → ℕ → Option (List ℕ) → ℕ
number_after symbols scaled after most upto =
    length (filter
    (λ cs. is_within scaled (mass_of (scaled_masses_of symbols) cs) && (follows after cs && is_up_to upto cs))
    (lists_up_to (length symbols) most))

-- a list where one was found
abbrev pub found_list : Bool → List ℕ → Option (List ℕ)
found_list found counts = if found then Some counts else None
