-- Counts that stand one element after another.
use Rattle.std.specs.Prelude.{ℕ, List, [], ◌∷◌, length, take, drop, sum_by}
use Rattle.multinomial_bounds.specs.Isotopologue.{Element}

-- how many isotopes some elements have
abbrev pub isotopes_of_all : List Element → ℕ
isotopes_of_all elements = sum_by (λ e. length e.weights) elements

-- the counts of each element, in order
unfoldable pub counts_by_element : List Element → List ℕ → List (List ℕ)
counts_by_element [] counts = []
counts_by_element (e ∷ elements) counts =
    take (length e.weights) counts ∷ counts_by_element elements (drop (length e.weights) counts)
