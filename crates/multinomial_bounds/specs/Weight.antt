-- The exact weights of isotope counts. An element is the list of the weights of its isotopes, by
-- rising mass number (abundances in any one unit), and its atoms are drawn one by one.
-- The program never computes an exact weight: enclosures of it are what it gives.
use Rattle.std.specs.Prelude.{◌≡◌, ℕ, zero, suc, ◌+◌, ◌-◌, ◌*◌, ◌^◌, ◌≤◌, List, length, sum, All, ◌==◌, if◌then◌else◌, slice_index, slice_set}
use Rattle.std.specs.List.{sum_by, list_all, range_with_len}

-- the places of a list, 0 first: those of an element's isotopes
abbrev pub places : List ℕ → List ℕ
places xs = range_with_len 0 (length xs)

-- the counts with one atom less, or one more, of the isotope at place i
abbrev pub one_less : List ℕ → ℕ → List ℕ
one_less counts i = slice_set counts i (slice_index counts i - 1)

abbrev pub one_more : List ℕ → ℕ → List ℕ
one_more counts i = slice_set counts i (slice_index counts i + 1)

-- The weight of the counts among all ways to draw this many atoms. No atom gives no counts, with
-- weight 1. Otherwise the last atom was of some isotope, and the others gave the counts without it.
unfoldable pub weight_of : List ℕ → ℕ → List ℕ → ℕ
weight_of weights zero counts = if list_all (λ c. c == 0) counts then 1 else 0
weight_of weights (suc n) counts =
    let others = λ (i : ℕ). weight_of weights n (one_less counts i) in
    sum_by (λ i. if slice_index counts i == 0 then 0 else slice_index weights i * others i) (places weights)

-- the weight of all counts together, of which `weight_of` is the part that has these counts
abbrev pub total_of : List ℕ → ℕ → ℕ
total_of weights atoms = sum weights ^ atoms

-- what the program takes as the weights of an element: 1 to 16, each from 1 to 10^12
pub record IsWeights (weights : List ℕ) : Type 0 where
  pub some : 1 ≤ length weights
  pub few : length weights ≤ 16
  pub positive : All (λ w. 1 ≤ w) weights
  pub bounded : All (λ w. w ≤ 10 ^ 12) weights

-- counts of the isotopes of an element with this many atoms
pub record IsCounts (weights : List ℕ) (atoms : ℕ) (counts : List ℕ) : Type 0 where
  pub places_agree : length counts ≡ length weights
  pub atoms_agree : sum counts ≡ atoms
