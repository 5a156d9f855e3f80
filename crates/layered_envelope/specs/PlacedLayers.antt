-- Layers of isotopologues told by places. The counts of each element stand in one order, by falling upper bound, and
-- an isotopologue has a place in each of these orders: that of its counts. Bounds and thresholds are in units of
-- 10^-18.
use Rattle.std.specs.Prelude.{ℕ, nat_lt, List, [], ◌∷◌, length, map, filter, slice_index_or}
use Rattle.std.specs.List.{range_with_len}
use Rattle.sorted_lists.specs.SortedLists.{sorted_by}
use Rattle.multinomial_bounds.specs.Isotopologue.{Element}
use Rattle.multinomial_bounds.specs.Compositions.{counts_of, choices}
use Rattle.isotopologue_sets.specs.Layers.{hi_of}
use Rattle.sub_isotopologues.specs.SubIsotopologues.{stands_before}

-- all counts of an element, by falling upper bound, ties in lexicographic order
unfoldable pub ordered_counts : Element → List (List ℕ)
ordered_counts e = sorted_by (stands_before e.weights) (counts_of e)

-- the isotopologue at places: for each element the counts at its place
unfoldable pub counts_at : List Element → List ℕ → List (List ℕ)
counts_at [] places = []
counts_at (e ∷ elements) [] = []
counts_at (e ∷ elements) (place ∷ places) = slice_index_or (ordered_counts e) place [] ∷ counts_at elements places

-- the places of all isotopologues, in lexicographic order: the first element's place changes last
unfoldable pub all_places : List Element → List (List ℕ)
all_places elements = choices (map (λ e. range_with_len 0 (length (ordered_counts e))) elements)

-- the layer of a threshold by places, in lexicographic order: the places of all isotopologues whose upper bound is
-- above it
unfoldable pub layer_places : List Element → ℕ → List (List ℕ)
layer_places elements threshold =
    filter (λ places. nat_lt threshold (hi_of elements (counts_at elements places))) (all_places elements)
