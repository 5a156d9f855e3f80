-- Only proofs use these: all counts of an element by their places, and by their distances from the mode.
use Rattle.std.specs.Prelude.{ℕ, List, [], length, map, sum, slice_index_or}
use Rattle.std.specs.List.{range_with_len}
use Rattle.multinomial_bounds.specs.Path.{atoms_above}
use Rattle.multinomial_bounds.specs.Compositions.{compositions}

-- the counts at a place of all counts of q isotopes and n atoms
abbrev pub composition_at : ℕ → ℕ → ℕ → List ℕ
composition_at q n place = slice_index_or (compositions q n) place []

-- how many moves of one atom lead from the mode to the counts at each place, beside the place
abbrev pub moves_to_all : List ℕ → List (ℕ × ℕ)
moves_to_all mode =
    let q = length mode in
    let n = sum mode in
    let count = length (compositions q n) in
    map {B = ℕ × ℕ} (λ place. (atoms_above mode (composition_at q n place), place)) (range_with_len 0 count)
