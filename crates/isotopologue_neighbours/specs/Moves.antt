-- Moves of one atom between two isotopes of one element, and the isotopologues that they lead to.
use Rattle.std.specs.Prelude.{ℕ, ◌==◌, not, nat_lt, List, [], ◌∷◌, ◌++◌, map, filter, flat_map, slice_index}
use Rattle.multinomial_bounds.specs.Weight.{places, one_less, one_more}

-- the counts after an atom of isotope `from` became one of isotope `to`
abbrev pub moved : List ℕ → ℕ → ℕ → List ℕ
moved counts from to = one_more (one_less counts from) to

-- the isotopes of which there is an atom to give, and those other than one that can take it
abbrev pub givers : List ℕ → List ℕ
givers counts = filter (λ i. nat_lt 0 (slice_index counts i)) (places counts)

abbrev pub takers : List ℕ → ℕ → List ℕ
takers counts from = filter (λ i. not (i == from)) (places counts)

-- The counts of an element after each such move: by the isotope that gives the atom, then by the one that takes it.
unfoldable pub counts_moved : List ℕ → List (List ℕ)
counts_moved counts = flat_map (λ from. map (moved counts from) (takers counts from)) (givers counts)

-- The neighbours of an isotopologue, which are one such move away: by the element, then as above.
unfoldable pub neighbours_of : List (List ℕ) → List (List (List ℕ))
neighbours_of [] = []
neighbours_of (counts ∷ others) =
    map (λ changed. changed ∷ others) (counts_moved counts) ++ map (λ more. counts ∷ more) (neighbours_of others)
