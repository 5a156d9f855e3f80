-- The isotopologues of a list of elements by their bounds, and layers of them. Bounds, thresholds and coverages are
-- in units of 10^-18.
use Rattle.std.specs.Prelude.{ℕ, ◌+◌, ◌/◌, ◌^◌, ◌≤◌, Bool, ◌||◌, nat_lt, nat_le, List, length, map, filter, find, sum_by, unwrap_or, All}
use Rattle.std.specs.List.{range_with_len}
use Rattle.multinomial_bounds.specs.Weight.{IsWeights}
use Rattle.multinomial_bounds.specs.Bounds.{floor_of, ceiling_of}
use Rattle.multinomial_bounds.specs.Mode.{mode_of_atoms}
use Rattle.multinomial_bounds.specs.Isotopologue.{Element, all_atoms, isotopologue_bound}
use Rattle.multinomial_bounds.specs.Compositions.{isotopologues_of}

-- the most elements of a formula, and the most atoms of one of them and of all together
abbrev pub max_elements_of_formula : ℕ
max_elements_of_formula = 20

abbrev pub max_atoms_of_one : ℕ
max_atoms_of_one = 10000

abbrev pub max_atoms_of_all : ℕ
max_atoms_of_all = 20000

-- the elements of a formula within these limits
pub record AreElements (elements : List Element) : Type 0 where
  pub few : length elements ≤ max_elements_of_formula
  pub weights : All (λ e. IsWeights e.weights) elements
  pub few_of_each : All (λ e. e.atoms ≤ max_atoms_of_one) elements
  pub few_atoms : all_atoms elements ≤ max_atoms_of_all

-- the bounds of the probability of an isotopologue
abbrev pub lo_of : List Element → List (List ℕ) → ℕ
lo_of elements isotopologue = isotopologue_bound floor_of elements isotopologue

abbrev pub hi_of : List Element → List (List ℕ) → ℕ
hi_of elements isotopologue = isotopologue_bound ceiling_of elements isotopologue

-- what isotopologues have together at least
abbrev pub lo_total : List Element → List (List (List ℕ)) → ℕ
lo_total elements isotopologues = sum_by (lo_of elements) isotopologues

-- the layer of a threshold: all isotopologues whose upper bound is above it, in lexicographic order
unfoldable pub layer : List Element → ℕ → List (List (List ℕ))
layer elements threshold = filter (λ i. nat_lt threshold (hi_of elements i)) (isotopologues_of elements)

-- the isotopologue of all modes, and its upper bound
abbrev pub mode_of_each : List Element → List (List ℕ)
mode_of_each elements = map (λ e. mode_of_atoms e.weights e.atoms) elements

abbrev pub mode_hi : List Element → ℕ
mode_hi elements = hi_of elements (mode_of_each elements)

-- The thresholds, from step 0 on: the mode's upper bound halved by each step, rounded down. It is at most 10^18,
-- which is below 2^60, so the last of 60 is 0. More zeros before it change no first threshold.
abbrev pub threshold_at : List Element → ℕ → ℕ
threshold_at elements step = mode_hi elements / 2 ^ (step + 1)

abbrev pub thresholds : List Element → List ℕ
thresholds elements = map (threshold_at elements) (range_with_len 0 60)

-- whether the layer of a threshold has the coverage by its lower bounds
abbrev pub layer_reaches : List Element → ℕ → ℕ → Bool
layer_reaches elements coverage threshold = nat_le coverage (lo_total elements (layer elements threshold))

-- the threshold of the reaching layer: the first whose layer has the coverage, and 0 where none has
unfoldable pub reaching_threshold : List Element → ℕ → ℕ
reaching_threshold elements coverage = unwrap_or (find (layer_reaches elements coverage) (thresholds elements)) 0

-- the most members of a layer
abbrev pub max_members : ℕ
max_members = 1048576

-- whether the layer of a threshold has more members than that
abbrev pub has_too_many : List Element → ℕ → Bool
has_too_many elements threshold = nat_lt max_members (length (layer elements threshold))

-- whether the search for a cover ends at a threshold: its layer has the coverage, or too many members
abbrev pub ends_search : List Element → ℕ → ℕ → Bool
ends_search elements coverage threshold =
    layer_reaches elements coverage threshold || has_too_many elements threshold

-- the threshold at which the search for a cover ends: the first at which it does, and 0 where there is none
unfoldable pub last_threshold_for : List Element → ℕ → ℕ
last_threshold_for elements coverage = unwrap_or (find (ends_search elements coverage) (thresholds elements)) 0
