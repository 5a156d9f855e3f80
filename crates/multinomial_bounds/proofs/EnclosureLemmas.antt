-- Laws for the crates above: the bounds of the definitions enclose the exact probability of every
-- counts of an element, and of every isotopologue.
use Rattle.std.proofs.Common.{◌++◌, ◌≡◌, ℕ, zero, suc, ◌+◌, ◌*◌, ◌<◌, ◌≤◌, List, [], ◌∷◌, refl, sym, ◌∙◌, subst, arith, length, get_or, sum, fold, All}
use Rattle.std.proofs.Math.Nat.{mul-pos, mul-le-mul_left, mul_assoc}
use Rattle.std.proofs.lemmas.List.Sums.{fold_push}
use Rattle.std.proofs.lemmas.List.Elements.{All-head, All-tail}
use Rattle.multinomial_bounds.specs.Weight.{weight_of, total_of, IsWeights, IsCounts}
use Rattle.multinomial_bounds.specs.Bounds.{certainty, floor_of, ceiling_of, IsEnclosure, product_of}
use Rattle.multinomial_bounds.specs.Mode.{mode_of_atoms, mode_bound, IsMode}
use Rattle.multinomial_bounds.specs.Path.{first_above, atoms_above, parent_of, bound_at, bound_of}
use Rattle.multinomial_bounds.specs.Isotopologue.{Element, IsIsotopologue, isotopologue_weight, all_weight, bounds_of, isotopologue_bound}
use Rattle.multinomial_bounds.proofs.WeightLemmas.{move_rule}
use Rattle.multinomial_bounds.proofs.BoundLemmas.{IsEnclosure-move, IsEnclosure-times, ceiling_of-le}
use Rattle.multinomial_bounds.proofs.ModeLemmas.{length-mode_of_atoms, sum-mode_of_atoms, IsMode-mode_of_atoms, IsEnclosure-mode, IsWeights-positive}
use Rattle.multinomial_bounds.proofs.PathLemmas.{same_counts, atoms_above-zero, IsParentMove, IsParentMove-from}
use Rattle.multinomial_bounds.proofs.PathLemmas.{IsParentMove-falls, bound_at-suc, bound_at-mode}

module _ (ws m : List ℕ) (n lo hi : ℕ) (same : length m ≡ length ws) (atoms : sum m ≡ n) (mode : IsMode ws m)
    (positive : (k : ℕ) → k < length ws → 1 ≤ get_or ws k 0)
    (start : IsEnclosure lo hi (weight_of ws n m) (total_of ws n)) where
  IsEnclosure-bound_at : (d : ℕ) (x : List ℕ) → length x ≡ length ws → sum x ≡ n → atoms_above m x ≡ d →
      IsEnclosure (bound_at floor_of ws m lo d x) (bound_at ceiling_of ws m hi d x) (weight_of ws n x) (total_of ws n)
  unfolding bound_at parent_of
  IsEnclosure-bound_at zero x places all above =
      let e : x ≡ m = same_counts x m (places ∙ sym same) (all ∙ sym atoms) (atoms_above-zero m x above) in
      rw e start
  IsEnclosure-bound_at (suc d) x places all above =
      let i : ℕ = first_above m x in
      let j : ℕ = first_above x m in
      let move : IsParentMove m x d = IsParentMove-from m x d (same ∙ sym places) (atoms ∙ sym all) above in
      let has : 1 ≤ get_or x i 0 = omega (arith, move.above) in
      let weighs : 1 ≤ get_or ws i 0 = positive i (rw (← places) move.above_within) in
      IsEnclosure-move _ _ (weight_of ws n (parent_of m x)) (weight_of ws n x) _ _ (total_of ws n)
      (mul-pos (omega arith) weighs) (IsParentMove-falls ws m x d places mode move)
      (IsEnclosure-bound_at d (parent_of m x) (move.places ∙ places) (move.atoms ∙ all) move.nearer)
      (move_rule ws n x i j move.apart has move.below_within)

-- The bounds of any counts enclose their probability.
pub IsEnclosure-bound_of : (ws x : List ℕ) → IsWeights ws → length x ≡ length ws →
    IsEnclosure (bound_of floor_of ws x) (bound_of ceiling_of ws x) (weight_of ws (sum x) x) (total_of ws (sum x))
unfolding bound_of
IsEnclosure-bound_of ws x ok places =
    IsEnclosure-bound_at ws (mode_of_atoms ws (sum x)) (sum x) (mode_bound floor_of ws (sum x)) (mode_bound ceiling_of ws (sum x))
    (length-mode_of_atoms ws (sum x)) (sum-mode_of_atoms ws ok.some (sum x)) (IsMode-mode_of_atoms ws ok.some (sum x))
    (IsWeights-positive ws ok) (IsEnclosure-mode ws ok.some (IsWeights-positive ws ok) (sum x))
    (atoms_above (mode_of_atoms ws (sum x)) x) x places refl refl

pub IsEnclosure-counts : (ws : List ℕ) (n : ℕ) (x : List ℕ) → IsWeights ws → IsCounts ws n x →
    IsEnclosure (bound_of floor_of ws x) (bound_of ceiling_of ws x) (weight_of ws n x) (total_of ws n)
IsEnclosure-counts ws n x ok counts =
    let P : ℕ → Type 0 = λ k. IsEnclosure (bound_of floor_of ws x) (bound_of ceiling_of ws x) (weight_of ws k x) (total_of ws k) in
    subst P counts.atoms_agree (IsEnclosure-bound_of ws x ok counts.places_agree)

-- an enclosure times those of further elements, in order
unfoldable pub product_from : (ℕ → ℕ → ℕ) → ℕ → List ℕ → ℕ
product_from round start bounds = fold (λ product bound. round (product * bound) certainty) start bounds

IsEnclosure-fold : (es : List Element) (xs : List (List ℕ)) (lo hi f w : ℕ) → All (λ e. IsWeights e.weights) es →
    IsIsotopologue es xs → IsEnclosure lo hi f w →
    IsEnclosure (product_from floor_of lo (bounds_of floor_of es xs)) (product_from ceiling_of hi (bounds_of ceiling_of es xs))
    (f * isotopologue_weight es xs) (w * all_weight es)
unfolding product_from bounds_of isotopologue_weight all_weight
IsEnclosure-fold [] [] lo hi f w ok is e =
    let f_one : f * 1 ≡ f = omega arith in
    let w_one : w * 1 ≡ w = omega arith in
    rw (f_one, w_one) e
IsEnclosure-fold [] (x ∷ xs) lo hi f w ok is e = absurd is
IsEnclosure-fold (d ∷ es) [] lo hi f w ok is e = absurd is
IsEnclosure-fold (d ∷ es) (x ∷ xs) lo hi f w ok is e =
    rw (
      ← mul_assoc f (weight_of d.weights d.atoms x) (isotopologue_weight es xs),
      ← mul_assoc w (total_of d.weights d.atoms) (all_weight es),
    )
    (IsEnclosure-fold es xs _ _ (f * weight_of d.weights d.atoms x) (w * total_of d.weights d.atoms)
    (All-tail (λ e. IsWeights e.weights) d es ok) is.1
    (IsEnclosure-times lo hi (bound_of floor_of d.weights x) (bound_of ceiling_of d.weights x) f w
    (weight_of d.weights d.atoms x) (total_of d.weights d.atoms) e
    (IsEnclosure-counts d.weights d.atoms x (All-head (λ e. IsWeights e.weights) d es ok) is.0)))

-- The bounds of any isotopologue enclose its probability.
pub IsEnclosure-isotopologue : (es : List Element) (xs : List (List ℕ)) → All (λ e. IsWeights e.weights) es → IsIsotopologue es xs →
    IsEnclosure (isotopologue_bound floor_of es xs) (isotopologue_bound ceiling_of es xs) (isotopologue_weight es xs) (all_weight es)
unfolding product_of product_from
IsEnclosure-isotopologue es xs ok is =
    let f_one : 1 * isotopologue_weight es xs ≡ isotopologue_weight es xs = omega arith in
    let w_one : 1 * all_weight es ≡ all_weight es = omega arith in
    rw f_one at (rw w_one at
    (IsEnclosure-fold es xs certainty certainty 1 1 ok is
    (record { ordered = omega arith; positive = omega arith; at_most_one = omega arith; from_below = omega arith; from_above = omega arith })))

-- What the walk over an element's counts needs: the bounds of the mode, and those of other counts
-- from their parent's.
pub bound_of-mode : (round : ℕ → ℕ → ℕ) (ws : List ℕ) → 1 ≤ length ws → (n : ℕ) →
    bound_of round ws (mode_of_atoms ws n) ≡ mode_bound round ws n
unfolding bound_of
bound_of-mode round ws some n =
    rw (sum-mode_of_atoms ws some n) (bound_at-mode round ws (mode_of_atoms ws n) (mode_bound round ws n))

module _ (ws x : List ℕ) (d : ℕ) (some : 1 ≤ length ws) (same : length x ≡ length ws)
    (far : atoms_above (mode_of_atoms ws (sum x)) x ≡ suc d) where
  pub parent-move : IsParentMove (mode_of_atoms ws (sum x)) x d
  parent-move =
      IsParentMove-from (mode_of_atoms ws (sum x)) x d (length-mode_of_atoms ws (sum x) ∙ sym same)
      (sum-mode_of_atoms ws some (sum x)) far

  pub bound_of-parent : (round : ℕ → ℕ → ℕ) →
      bound_of round ws x
      ≡ round
      (bound_of round ws (parent_of (mode_of_atoms ws (sum x)) x)
      * ((get_or x (first_above x (mode_of_atoms ws (sum x))) 0 + 1)
      * get_or ws (first_above (mode_of_atoms ws (sum x)) x) 0))
      (get_or x (first_above (mode_of_atoms ws (sum x)) x) 0
      * get_or ws (first_above x (mode_of_atoms ws (sum x))) 0)
  unfolding bound_of
  bound_of-parent round =
      rw (far, bound_at-suc, parent-move.atoms, parent-move.nearer)

  -- the upper bound is at most that of the parent
  pub ceiling-bound_of-parent : ((k : ℕ) → k < length ws → 1 ≤ get_or ws k 0) →
      bound_of ceiling_of ws x ≤ bound_of ceiling_of ws (parent_of (mode_of_atoms ws (sum x)) x)
  ceiling-bound_of-parent positive =
      let move : IsParentMove (mode_of_atoms ws (sum x)) x d = parent-move in
      let falls : (get_or x (first_above x (mode_of_atoms ws (sum x))) 0 + 1) * get_or ws (first_above (mode_of_atoms ws (sum x)) x) 0
      ≤ get_or x (first_above (mode_of_atoms ws (sum x)) x) 0 * get_or ws (first_above x (mode_of_atoms ws (sum x))) 0 =
      IsParentMove-falls ws (mode_of_atoms ws (sum x)) x d same (IsMode-mode_of_atoms ws some (sum x)) move in
      let divides : 0 < get_or x (first_above (mode_of_atoms ws (sum x)) x) 0 * get_or ws (first_above x (mode_of_atoms ws (sum x))) 0 =
      mul-pos (omega (arith, move.above)) (positive (first_above x (mode_of_atoms ws (sum x))) (rw (← same) move.below_within)) in
      rw (bound_of-parent ceiling_of)
      (ceiling_of-le _ _ (bound_of ceiling_of ws (parent_of (mode_of_atoms ws (sum x)) x)) divides
      (mul-le-mul_left (bound_of ceiling_of ws (parent_of (mode_of_atoms ws (sum x)) x)) falls))

-- products of bounds: of none, of one more, and of one
pub product_of-none : (round : ℕ → ℕ → ℕ) → product_of round [] ≡ certainty
unfolding product_of
product_of-none round = refl

pub product_of_push : (round : ℕ → ℕ → ℕ) (bounds : List ℕ) (bound : ℕ) →
    product_of round (bounds ++ bound ∷ []) ≡ round (product_of round bounds * bound) certainty
unfolding product_of
product_of_push round bounds bound = fold_push (λ product b. round (product * b) certainty) certainty bounds bound

pub product_of-one_lower : (bound : ℕ) → product_of floor_of (bound ∷ []) ≡ bound
unfolding product_of
product_of-one_lower bound = omega arith

pub product_of-one_upper : (bound : ℕ) → product_of ceiling_of (bound ∷ []) ≡ bound
unfolding product_of
product_of-one_upper bound = omega arith
