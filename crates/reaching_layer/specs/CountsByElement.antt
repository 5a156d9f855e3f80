-- Counts that stand one element after another.
use Rattle.std.specs.Prelude.{ℕ, List, [], ◌∷◌, take, drop}

-- the counts of each element, where the elements have so many isotopes
unfoldable pub counts_by_element : List ℕ → List ℕ → List (List ℕ)
counts_by_element [] counts = []
counts_by_element (first ∷ others) counts = take first counts ∷ counts_by_element others (drop first counts)
