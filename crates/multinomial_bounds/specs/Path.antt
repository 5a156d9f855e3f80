-- The bounds of the probability of any counts, by moves of one atom that begin at the mode.
use Rattle.std.specs.Prelude.{ℕ, zero, suc, ◌+◌, ◌-◌, ◌*◌, List, sum, nat_lt, slice_index}
use Rattle.std.specs.List.{sum_by, position_or_len}
use Rattle.multinomial_bounds.specs.Weight.{places, one_less, one_more}
use Rattle.multinomial_bounds.specs.Mode.{mode_of_atoms, mode_bound}

-- the first isotope that has more atoms in the second counts than in the first
unfoldable pub first_above : List ℕ → List ℕ → ℕ
first_above fewer more = position_or_len (λ k. nat_lt (slice_index fewer k) (slice_index more k)) (places more)

-- how many atoms of the second counts are above the first
unfoldable pub atoms_above : List ℕ → List ℕ → ℕ
atoms_above fewer more = sum_by (λ k. slice_index more k - slice_index fewer k) (places more)

-- The parent of counts, one move nearer to the mode: the first isotope above the mode gives an atom
-- to the first below it.
unfoldable pub parent_of : List ℕ → List ℕ → List ℕ
parent_of mode counts = one_more (one_less counts (first_above mode counts)) (first_above counts mode)

-- The bound of counts that are this many moves from the mode, whose own bound is `start`. It is their
-- parent's, times the quotient of the two probabilities.
unfoldable pub bound_at : (ℕ → ℕ → ℕ) → List ℕ → List ℕ → ℕ → ℕ → List ℕ → ℕ
bound_at round weights mode start zero counts = start
bound_at round weights mode start (suc moves) counts =
    let i = first_above mode counts in
    let j = first_above counts mode in
    let numerator = (slice_index counts j + 1) * slice_index weights i in
    let denominator = slice_index counts i * slice_index weights j in
    round (bound_at round weights mode start moves (parent_of mode counts) * numerator) denominator

-- the bound of the probability of an element's counts, by `floor_of` or `ceiling_of`
unfoldable pub bound_of : (ℕ → ℕ → ℕ) → List ℕ → List ℕ → ℕ
bound_of round weights counts =
    let mode = mode_of_atoms weights (sum counts) in
    bound_at round weights mode (mode_bound round weights (sum counts)) (atoms_above mode counts) counts
