-- What it means that a set of isotopologues has a coverage: by exact weights, with no rounding. Coverages are in
-- units of 10^-18.
use Rattle.std.specs.Prelude.{ℕ, ◌+◌, ◌*◌, ◌^◌, ◌<◌, ◌≤◌, ◌≢◌, List, length, sum_by, All, AllPairs}
use Rattle.multinomial_bounds.specs.Bounds.{certainty}
use Rattle.multinomial_bounds.specs.Isotopologue.{Element, IsIsotopologue, isotopologue_weight, all_weight}

-- the greatest coverage that can be asked for: 0.999999
abbrev pub max_coverage : ℕ
max_coverage = 999999 * 10 ^ 12

-- the exact weight of a set of isotopologues together; its probability is this over the weight of all
abbrev pub weight_of_set : List Element → List (List (List ℕ)) → ℕ
weight_of_set elements set = sum_by (isotopologue_weight elements) set

-- a list of isotopologues of the elements, none twice
pub record IsSet (elements : List Element) (set : List (List (List ℕ))) : Type 0 where
  pub isotopologues : All (IsIsotopologue elements) set
  pub distinct : AllPairs (λ i j. i ≢ j) set

-- a set reaches a coverage: its exact weight is at least the coverage's part of the weight of all
pub record Reaches (elements : List Element) (set : List (List (List ℕ))) (coverage : ℕ) : Type 0 where
  pub set_is : IsSet elements set
  pub enough : coverage * all_weight elements ≤ certainty * weight_of_set elements set

-- no set with fewer members reaches the coverage
abbrev pub Bound : List Element → ℕ → ℕ → Type 0
Bound elements bound coverage = (set : List (List (List ℕ))) → length set < bound → ¬ (Reaches elements set coverage)

-- a set reaches a coverage but for at most so many parts in 10^18
pub record ReachesButFor (elements : List Element) (set : List (List (List ℕ))) (coverage parts : ℕ) : Type 0 where
  pub set_is : IsSet elements set
  pub enough : coverage * all_weight elements ≤ certainty * weight_of_set elements set + parts * all_weight elements
