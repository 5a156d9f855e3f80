-- Only contracts of this crate's inner calls and proofs use these: an isotopologue with other counts of one element.
use Rattle.std.specs.Prelude.{◌≡◌, ◌<◌, ◌+◌, ℕ, List, [], ◌∷◌, ◌++◌, length, map, take, drop, find, Option, slice_index_or}
use Rattle.std.specs.List.{concat}
use Rattle.std.specs.Option.{option_map}
use Rattle.multinomial_bounds.specs.Isotopologue.{Element}
use Rattle.isotopologue_sets.specs.Layers.{hi_of}
use Rattle.cover_claims.specs.Claims.{is_left_out}

-- the isotopologue with these counts of the element at a place
abbrev pub with_counts : List (List ℕ) → ℕ → List ℕ → List (List ℕ)
with_counts isotopologue element counts = take element isotopologue ++ counts ∷ drop (element + 1) isotopologue

-- the counts of an isotopologue by one element: those before it, its own, and those behind it
pub record IsAround (isotopologue : List (List ℕ)) (element : ℕ) (before own after : List ℕ) : Type 0 where
  pub within : element < length isotopologue
  pub before_is : before ≡ concat (take element isotopologue)
  pub own_is : own ≡ slice_index_or isotopologue element []
  pub after_is : after ≡ concat (drop (element + 1) isotopologue)

-- the first of some counts of an element that make an isotopologue which was left out: that isotopologue's counts in a
-- row, and its upper bound
abbrev pub as_row : List Element → Option (List (List ℕ)) → Option (List ℕ × ℕ)
as_row elements found = option_map (λ i. (concat i, hi_of elements i)) found

abbrev pub left_out_among : List Element → ℕ → List (List (List ℕ)) → List (List ℕ) → ℕ → List (List ℕ)
    → Option (List ℕ × ℕ)
left_out_among elements threshold members isotopologue element choices =
    as_row elements (find (is_left_out elements threshold members) (map (with_counts isotopologue element) choices))
