-- What a list of isotopologues leaves to those that it doesn't have. Thresholds, bounds of probabilities and coverages
-- are in units of 10^-18.
use Rattle.std.specs.Prelude.{◌⊎◌, ℕ, ◌+◌, ◌-◌, ◌*◌, ◌≤◌, nat_lt, List, length, map, filter, take, sum, All, Contains}
use Rattle.sorted_lists.specs.SortedLists.{sorted_by}
use Rattle.multinomial_bounds.specs.Bounds.{certainty}
use Rattle.multinomial_bounds.specs.Isotopologue.{Element, isotopologue_weight, all_weight}
use Rattle.isotopologue_sets.specs.Layers.{hi_of, mode_of_each}
use Rattle.isotopologue_neighbours.specs.Moves.{neighbours_of}

-- A list of isotopologues is closed above a threshold: it has the isotopologue of all modes, and a neighbour of a
-- member is a member too, unless its upper bound is at most the threshold.
pub record IsClosedAbove (elements : List Element) (threshold : ℕ) (members : List (List (List ℕ))) : Type 0 where
  pub mode : Contains members (mode_of_each elements)
  pub neighbours :
      All (λ member. All (λ i. Contains members i ⊎ (hi_of elements i ≤ threshold)) (neighbours_of member)) members

-- the exact probability of an isotopologue is at most the threshold
abbrev pub IsAtMost : List Element → ℕ → List (List ℕ) → Type 0
IsAtMost elements threshold isotopologue =
    certainty * isotopologue_weight elements isotopologue ≤ threshold * all_weight elements

-- the upper bounds of the members that are above the threshold, the greatest first
unfoldable pub greatest_above : List Element → ℕ → List (List (List ℕ)) → List ℕ
greatest_above elements threshold members =
    sorted_by (λ a b. nat_lt b a)
    (map (hi_of elements) (filter (λ member. nat_lt threshold (hi_of elements member)) members))

-- So many of the greatest upper bounds above the threshold together, with the threshold once for each that is missing.
unfoldable pub greatest_total : List Element → ℕ → List (List (List ℕ)) → ℕ → ℕ
greatest_total elements threshold members number =
    let greatest = greatest_above elements threshold members in
    sum (take number greatest) + (number - length greatest) * threshold
