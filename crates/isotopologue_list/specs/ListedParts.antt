-- Only proofs use these: the parts that a list of isotopologues is kept by. Bounds of probabilities are in units of
-- 10^-18.
use Rattle.std.specs.Prelude.{ℕ, ◌*◌, List, [], ◌∷◌, map, take, drop}
use Rattle.multinomial_bounds.specs.Bounds.{certainty, floor_of, ceiling_of, product_of}
use Rattle.multinomial_bounds.specs.Path.{bound_of}
use Rattle.isotopologue_sets.specs.Covers.{Member}
use Rattle.isotopologue_list.specs.Listed.{BoundedCounts}

-- the two bounds of an element's counts alone
abbrev pub ends_of_counts : List ℕ → List ℕ → ℕ × ℕ
ends_of_counts weights counts = (bound_of floor_of weights counts, bound_of ceiling_of weights counts)

-- the isotopologue of counts that are chosen for each element
unfoldable pub isotopologue_from : List BoundedCounts → Member
isotopologue_from chosen =
    record {
      counts = map (λ c. c.counts) chosen;
      lo = product_of floor_of (map (λ c. c.lo) chosen);
      hi = product_of ceiling_of (map (λ c. c.hi) chosen);
    }

-- counts that are kept end to end, so many in a row, beside the ends of their enclosures
unfoldable pub rows : ℕ → List ℕ → List (ℕ × ℕ) → List BoundedCounts
rows places counts [] = []
rows places counts (ends ∷ others) =
    record { counts = take places counts; lo = ends.0; hi = ends.1 } ∷ rows places (drop places counts) others

-- the ends of a product that begins at these, times those of the chosen counts in order
unfoldable pub ends_from : ℕ → ℕ → List BoundedCounts → ℕ × ℕ
ends_from lo hi [] = (lo, hi)
ends_from lo hi (chosen ∷ others) =
    ends_from (floor_of (lo * chosen.lo) certainty) (ceiling_of (hi * chosen.hi) certainty) others
