-- The mode of an element's atoms, which is the likeliest counts, and the bounds of its probability.
use Rattle.std.specs.Prelude.{ℕ, zero, suc, ◌+◌, ◌*◌, ◌<◌, ◌≤◌, Bool, List, length, sum, replicate, nat_le, slice_index}
use Rattle.std.specs.List.{list_all, position_or_len}
use Rattle.multinomial_bounds.specs.Weight.{places, one_more}
use Rattle.multinomial_bounds.specs.Bounds.{certainty}

-- whether isotope k has at most the quotient of isotope i, its weight over its count plus one
abbrev pub quotient_le : List ℕ → List ℕ → ℕ → ℕ → Bool
quotient_le weights counts k i =
    nat_le (slice_index weights k * (slice_index counts i + 1)) (slice_index weights i * (slice_index counts k + 1))

-- the first isotope whose quotient no isotope exceeds
unfoldable pub next_isotope : List ℕ → List ℕ → ℕ
next_isotope weights counts =
    position_or_len (λ i. list_all (λ k. quotient_le weights counts k i) (places weights)) (places weights)

-- the mode of n atoms: one atom more of the next isotope, n times
unfoldable pub mode_of_atoms : List ℕ → ℕ → List ℕ
mode_of_atoms weights zero = replicate (length weights) 0
mode_of_atoms weights (suc n) =
    one_more (mode_of_atoms weights n) (next_isotope weights (mode_of_atoms weights n))

-- The bound of the mode's probability, by `floor_of` or `ceiling_of`. No atoms have probability 1.
-- The atom after the first n, of an isotope with c atoms so far, multiplies the probability by
-- (n + 1) * w / ((c + 1) * W), where w is the isotope's weight and W the sum of all.
unfoldable pub mode_bound : (ℕ → ℕ → ℕ) → List ℕ → ℕ → ℕ
mode_bound round weights zero = certainty
mode_bound round weights (suc n) =
    let counts = mode_of_atoms weights n in
    let i = next_isotope weights counts in
    let numerator = (n + 1) * slice_index weights i in
    let denominator = (slice_index counts i + 1) * sum weights in
    round (mode_bound round weights n * numerator) denominator

-- no move of one atom between two isotopes makes the counts likelier
abbrev pub IsMode : List ℕ → List ℕ → Type 0
IsMode weights counts =
    (i j : ℕ) → i < length weights → j < length weights →
    slice_index counts j * slice_index weights i ≤ (slice_index counts i + 1) * slice_index weights j
