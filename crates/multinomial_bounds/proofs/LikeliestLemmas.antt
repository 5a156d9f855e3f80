-- No move of one atom towards a mode lowers the exact weight, so no counts of as many atoms are likelier than it.
use Rattle.std.proofs.Common.{◌≡◌, ◌≢◌, ℕ, zero, suc, ◌+◌, ◌*◌, ◌<◌, ◌≤◌, List, refl, sym, ◌∙◌, subst, arith, length, get_or, sum}
use Rattle.std.proofs.Math.Nat.{le_of_mul-le-mul_right, le_trans, mul-le-mul_left, mul-le-mul_right, mul-pos}
use Rattle.multinomial_bounds.specs.Weight.{one_less, one_more, weight_of, IsWeights, IsCounts}
use Rattle.multinomial_bounds.specs.Mode.{IsMode}
use Rattle.multinomial_bounds.specs.Path.{first_above, atoms_above, parent_of}
use Rattle.multinomial_bounds.proofs.WeightLemmas.{in_list, move_rule}
use Rattle.multinomial_bounds.proofs.ModeLemmas.{IsWeights-positive}
use Rattle.multinomial_bounds.proofs.PathLemmas.{same_counts, atoms_above-zero, IsParentMove, IsParentMove-from}

-- a weight times a quotient a / b of at least 1
at_least : (f f' a b : ℕ) → 0 < a → b ≤ a → f * a ≡ f' * b → f ≤ f'
at_least f f' a b pos most exact =
    let h : f * a ≤ f' * a = rw exact (mul-le-mul_left f' most) in
    le_of_mul-le-mul_right h pos

-- A move of one atom from an isotope with more atoms than a mode to one with fewer lowers no weight.
pub weight-towards-mode : (ws m x : List ℕ) (n i j : ℕ) → IsWeights ws → IsMode ws m → length m ≡ length ws →
    length x ≡ length ws → get_or m i 0 < get_or x i 0 → get_or x j 0 < get_or m j 0 →
    weight_of ws n x ≤ weight_of ws n (one_more (one_less x i) j)
weight-towards-mode ws m x n i j ok mode mode_places places above below =
    let i_within : i < length ws = rw (← places) (in_list x i (omega arith)) in
    let j_within : j < length ws = rw (← mode_places) (in_list m j (omega arith)) in
    let apart : i ≢ j =
    λ e. let P : ℕ → Type 0 = λ k. get_or m k 0 < get_or x k 0 in
    let h : get_or m j 0 < get_or x j 0 = subst P e above in omega arith in
    let falls : (get_or x j 0 + 1) * get_or ws i 0 ≤ get_or x i 0 * get_or ws j 0 =
    le_trans (mul-le-mul_right (get_or ws i 0) (omega arith))
    (le_trans (mode i j i_within j_within) (mul-le-mul_right (get_or ws j 0) (omega arith))) in
    at_least (weight_of ws n x) (weight_of ws n (one_more (one_less x i) j)) (get_or x i 0 * get_or ws j 0)
    ((get_or x j 0 + 1) * get_or ws i 0)
    (mul-pos (omega arith) (IsWeights-positive ws ok j j_within)) falls
    (move_rule ws n x i j apart (omega arith) (omega arith))

module _ (ws m : List ℕ) (n : ℕ) (ok : IsWeights ws) (mode : IsMode ws m) (mode_places : length m ≡ length ws) where
  below_mode : (d : ℕ) (x : List ℕ) → length x ≡ length ws → sum x ≡ sum m → atoms_above m x ≡ d →
      weight_of ws n x ≤ weight_of ws n m
  unfolding parent_of
  below_mode zero x places atoms above =
      let e : x ≡ m = same_counts x m (places ∙ sym mode_places) atoms (atoms_above-zero m x above) in
      rw e (omega arith)
  below_mode (suc d) x places atoms above =
      let move : IsParentMove m x d = IsParentMove-from m x d (mode_places ∙ sym places) (sym atoms) above in
      le_trans
      (weight-towards-mode ws m x n (first_above m x) (first_above x m) ok mode mode_places places
      move.above move.below)
      (below_mode d (parent_of m x) (move.places ∙ places) (move.atoms ∙ atoms) move.nearer)

-- No counts of as many atoms have a greater weight than a mode.
pub weight-at-most-mode : (ws m x : List ℕ) (n : ℕ) → IsWeights ws → IsMode ws m → IsCounts ws n m → IsCounts ws n x →
    weight_of ws n x ≤ weight_of ws n m
weight-at-most-mode ws m x n ok mode m_counts x_counts =
    below_mode ws m n ok mode m_counts.places_agree (atoms_above m x) x x_counts.places_agree
    (x_counts.atoms_agree ∙ sym m_counts.atoms_agree) refl
