-- All counts of an element's isotopes, and all isotopologues of a list of elements, each once, in lexicographic
-- order.
use Rattle.std.specs.Prelude.{ℕ, zero, suc, ◌+◌, ◌-◌, ◌==◌, if◌then◌else◌, List, [], ◌∷◌, length, map, flat_map}
use Rattle.std.specs.List.{range_with_len}
use Rattle.multinomial_bounds.specs.Isotopologue.{Element}

-- All lists of q counts whose sum is n, in lexicographic order: for each first count, from 0 to n,
-- those of the atoms that are left.
unfoldable pub compositions : ℕ → ℕ → List (List ℕ)
compositions zero n = if n == 0 then [] ∷ [] else []
compositions (suc q) n =
    flat_map (λ first. map (λ rest. first ∷ rest) (compositions q (n - first))) (range_with_len 0 (n + 1))

-- all ways to choose one item of each list, in lexicographic order: the first list's item changes last
unfoldable pub choices : {A : Type 0} → List (List A) → List (List A)
choices [] = [] ∷ []
choices (items ∷ others) = flat_map (λ item. map (λ more. item ∷ more) (choices others)) items

-- All counts of an element's isotopes, and all isotopologues: the counts of each element with those of
-- the others. No elements have one isotopologue, the empty one.
unfoldable pub counts_of : Element → List (List ℕ)
counts_of e = compositions (length e.weights) e.atoms

unfoldable pub isotopologues_of : List Element → List (List (List ℕ))
isotopologues_of elements = choices (map counts_of elements)

unfoldable pub isotopologue_count : List Element → ℕ
isotopologue_count elements = length (isotopologues_of elements)
