-- How far an upper bound is above the lower one: a rounding step whose factor is at most 1 adds at most 1 to
-- that width, and a product has at most the sum of both widths and 1 more.
use Rattle.std.proofs.Common.{◌≡◌, ℕ, zero, suc, ◌+◌, ◌-◌, ◌*◌, ◌<◌, ◌≤◌, List, [], ◌∷◌, refl, sym, ◌∙◌, ap, arith, length, get_or, sum, All}
use Rattle.std.proofs.Math.Nat.{lt-div-mul-add, lt_of_mul-lt-mul_right, mul-le-mul_left, mul-le-mul_right, mul-pos, le_trans}
use Rattle.std.proofs.lemmas.Grind.{div_ceil_times}
use Rattle.std.proofs.lemmas.List.Elements.{All-head, All-tail}
use Rattle.std.proofs.lemmas.List.Sums.{sum_by-cons}
use Rattle.multinomial_bounds.specs.Weight.{places, IsWeights, IsCounts}
use Rattle.multinomial_bounds.specs.Bounds.{certainty, floor_of, ceiling_of, product_of}
use Rattle.multinomial_bounds.specs.Mode.{next_isotope, mode_of_atoms, mode_bound, IsMode}
use Rattle.multinomial_bounds.specs.Path.{first_above, atoms_above, parent_of, bound_at, bound_of}
use Rattle.multinomial_bounds.specs.Isotopologue.{Element, IsIsotopologue, all_atoms, bounds_of, isotopologue_bound}
use Rattle.multinomial_bounds.proofs.SumLemmas.{sum_by_le, sum_by-places}
use Rattle.multinomial_bounds.proofs.BoundLemmas.{ceiling_of-le}
use Rattle.multinomial_bounds.proofs.ModeLemmas.{length-mode_of_atoms, sum-mode_of_atoms, IsMode-mode_of_atoms}
use Rattle.multinomial_bounds.proofs.ModeLemmas.{IsWeights-positive, next_isotope-falls, next_isotope-within}
use Rattle.multinomial_bounds.proofs.PathLemmas.{IsParentMove, IsParentMove-from, IsParentMove-falls}
use Rattle.multinomial_bounds.proofs.EnclosureLemmas.{IsEnclosure-counts, product_from}

-- two quotients, the upper one of a number that is at most so many times the divisor above the lower one's
width-rounded : (p q u w : ℕ) → 0 < u → p ≤ q + w * u → ceiling_of p u ≤ floor_of q u + w + 1
width-rounded p q u w pos near =
    let down : q < floor_of q u * u + u = lt-div-mul-add pos in
    let up : ceiling_of p u * u < p + u = (div_ceil_times p u pos).1 in
    let h : ceiling_of p u * u < (floor_of q u + w + 2) * u = omega arith in
    let less : ceiling_of p u < floor_of q u + w + 2 = lt_of_mul-lt-mul_right u h in
    omega arith

-- a step whose factor a / b is at most 1
pub width-step : (lo hi w a b : ℕ) → 0 < b → a ≤ b → hi ≤ lo + w →
    ceiling_of (hi * a) b ≤ floor_of (lo * a) b + w + 1
width-step lo hi w a b pos most near =
    width-rounded (hi * a) (lo * a) b w pos
    (omega (arith, mul-le-mul_right a near, mul-le-mul_left w most))

-- the product of two probabilities
pub width-times : (lo hi w lo' hi' w' : ℕ) → hi ≤ certainty → lo' ≤ certainty → hi ≤ lo + w → hi' ≤ lo' + w' →
    ceiling_of (hi * hi') certainty ≤ floor_of (lo * lo') certainty + (w + w') + 1
width-times lo hi w lo' hi' w' most most' near near' =
    let pos : 0 < certainty = omega arith in
    width-rounded (hi * hi') (lo * lo') certainty (w + w') pos
    (apart certainty lo hi w lo' hi' w' most most' near near')
  where
    apart : (u lo hi w lo' hi' w' : ℕ) → hi ≤ u → lo' ≤ u → hi ≤ lo + w → hi' ≤ lo' + w' →
        hi * hi' ≤ lo * lo' + (w + w') * u
    apart u lo hi w lo' hi' w' most most' near near' =
        omega (
          arith,
          mul-le-mul_left hi near',
          mul-le-mul_right lo' near,
          mul-le-mul_left w most',
          mul-le-mul_right w' most,
        )

-- The mode of n atoms takes n steps.
pub width-mode : (ws : List ℕ) → IsWeights ws → (n : ℕ) → mode_bound ceiling_of ws n ≤ mode_bound floor_of ws n + n
unfolding mode_bound
width-mode ws ok zero = omega arith
width-mode ws ok (suc n) =
    let i : ℕ = next_isotope ws (mode_of_atoms ws n) in
    let weighs : 1 ≤ get_or ws (next_isotope ws (mode_of_atoms ws n)) 0 =
    IsWeights-positive ws ok i (next_isotope-within ws (mode_of_atoms ws n) ok.some) in
    let falls : (n + 1) * get_or ws (next_isotope ws (mode_of_atoms ws n)) 0
    ≤ (get_or (mode_of_atoms ws n) (next_isotope ws (mode_of_atoms ws n)) 0 + 1) * sum ws =
    next_isotope-falls ws n ok.some in
    let some : 1 ≤ (n + 1) * get_or ws (next_isotope ws (mode_of_atoms ws n)) 0 = mul-pos (omega arith) weighs in
    let step = width-step (mode_bound floor_of ws n) (mode_bound ceiling_of ws n) n _ _ (le_trans some falls) falls
    (width-mode ws ok n) in
    le_trans step (omega arith)

-- Each move away from the mode m is one step.
module _ (ws m : List ℕ) (n lo hi w : ℕ) (same : length m ≡ length ws) (atoms : sum m ≡ n) (mode : IsMode ws m)
    (positive : (k : ℕ) → k < length ws → 1 ≤ get_or ws k 0) (start : hi ≤ lo + w) where
  width-bound_at : (d : ℕ) (x : List ℕ) → length x ≡ length ws → sum x ≡ n → atoms_above m x ≡ d →
      bound_at ceiling_of ws m hi d x ≤ bound_at floor_of ws m lo d x + (w + d)
  unfolding bound_at parent_of
  width-bound_at zero x places all above = omega arith
  width-bound_at (suc d) x places all above =
      let i : ℕ = first_above m x in
      let j : ℕ = first_above x m in
      let move : IsParentMove m x d = IsParentMove-from m x d (same ∙ sym places) (atoms ∙ sym all) above in
      let weighs : 1 ≤ get_or ws (first_above x m) 0 = positive j (rw (← places) move.below_within) in
      let divides : 0 < get_or x (first_above m x) 0 * get_or ws (first_above x m) 0 =
      mul-pos (omega (arith, move.above)) weighs in
      let step = width-step (bound_at floor_of ws m lo d (parent_of m x)) (bound_at ceiling_of ws m hi d (parent_of m x))
      (w + d) _ _ divides (IsParentMove-falls ws m x d places mode move)
      (width-bound_at d (parent_of m x) (move.places ∙ places) (move.atoms ∙ all) move.nearer) in
      le_trans step (omega arith)

-- there are at most as many moves as atoms
pub atoms_above-le : (m x : List ℕ) → atoms_above m x ≤ sum x
unfolding atoms_above
atoms_above-le m x =
    rw (← sum_by-places x)
    (sum_by_le (λ k. get_or x k 0 - get_or m k 0) (λ k. get_or x k 0) (places x) (λ k. omega arith))

-- The width of any counts is at most twice their atoms.
pub width-bound_of : (ws x : List ℕ) → IsWeights ws → length x ≡ length ws →
    bound_of ceiling_of ws x ≤ bound_of floor_of ws x + 2 * sum x
unfolding bound_of
width-bound_of ws x ok places =
    let n : ℕ = sum x in
    let m : List ℕ = mode_of_atoms ws (sum x) in
    let moved = width-bound_at ws (mode_of_atoms ws (sum x)) (sum x) (mode_bound floor_of ws (sum x))
    (mode_bound ceiling_of ws (sum x)) (sum x) (length-mode_of_atoms ws n) (sum-mode_of_atoms ws ok.some n) (IsMode-mode_of_atoms ws ok.some n)
    (IsWeights-positive ws ok) (width-mode ws ok n) (atoms_above m x) x places refl refl in
    le_trans moved (omega (arith, atoms_above-le (mode_of_atoms ws (sum x)) x))

pub width-counts : (ws : List ℕ) (n : ℕ) (x : List ℕ) → IsWeights ws → IsCounts ws n x →
    bound_of ceiling_of ws x ≤ bound_of floor_of ws x + 2 * n
width-counts ws n x ok counts = rw counts.atoms_agree at (width-bound_of ws x ok counts.places_agree)

-- each further element adds its own width and 1
width-fold : (es : List Element) (xs : List (List ℕ)) (lo hi w : ℕ) → All (λ e. IsWeights e.weights) es →
    IsIsotopologue es xs → hi ≤ certainty → hi ≤ lo + w →
    product_from ceiling_of hi (bounds_of ceiling_of es xs)
    ≤ product_from floor_of lo (bounds_of floor_of es xs) + (w + 2 * all_atoms es + length es)
unfolding product_from bounds_of
width-fold [] [] lo hi w ok is most near = omega arith
width-fold [] (x ∷ xs) lo hi w ok is most near = absurd is
width-fold (d ∷ es) [] lo hi w ok is most near = absurd is
width-fold (d ∷ es) (x ∷ xs) lo hi w ok is most near =
    let ok_here : IsWeights d.weights = All-head (λ e. IsWeights e.weights) d es ok in
    let e = IsEnclosure-counts d.weights d.atoms x ok_here is.0 in
    let pos : 0 < certainty = omega arith in
    let falls : ceiling_of (hi * bound_of ceiling_of d.weights x) certainty ≤ hi =
    ceiling_of-le _ certainty hi pos (mul-le-mul_left hi e.at_most_one) in
    let step = width-times lo hi w (bound_of floor_of d.weights x) (bound_of ceiling_of d.weights x) (2 * d.atoms)
    most (le_trans e.ordered e.at_most_one) near (width-counts d.weights d.atoms x ok_here is.0) in
    let rest = width-fold es xs (floor_of (lo * bound_of floor_of d.weights x) certainty)
    (ceiling_of (hi * bound_of ceiling_of d.weights x) certainty) (w + 2 * d.atoms + 1)
    (All-tail (λ e. IsWeights e.weights) d es ok) is.1 (le_trans falls most) (le_trans step (omega arith)) in
    le_trans rest (omega (arith, sum_by-cons (λ (e : Element). e.atoms) d es))

-- a first factor of certainty changes nothing
isotopologue_bound-first : (round : ℕ → ℕ → ℕ) (d : Element) (es : List Element) (x : List ℕ) (xs : List (List ℕ)) →
    round (certainty * bound_of round d.weights x) certainty ≡ bound_of round d.weights x →
    isotopologue_bound round (d ∷ es) (x ∷ xs) ≡ product_from round (bound_of round d.weights x) (bounds_of round es xs)
unfolding product_of product_from bounds_of
isotopologue_bound-first round d es x xs same = ap (λ (k : ℕ). product_from round k (bounds_of round es xs)) same

-- The width of an isotopologue of q elements and N atoms is at most 2 N + q - 1. No elements have width 0.
pub isotopologue-width : (elements : List Element) → All (λ e. IsWeights e.weights) elements → (i : List (List ℕ)) →
    IsIsotopologue elements i →
    isotopologue_bound ceiling_of elements i
    ≤ isotopologue_bound floor_of elements i + (2 * all_atoms elements + length elements - 1)
unfolding product_of bounds_of
isotopologue-width [] ok [] is = omega arith
isotopologue-width [] ok (x ∷ xs) is = absurd is
isotopologue-width (d ∷ es) ok [] is = absurd is
isotopologue-width (d ∷ es) ok (x ∷ xs) is =
    let ok_here : IsWeights d.weights = All-head (λ e. IsWeights e.weights) d es ok in
    let e = IsEnclosure-counts d.weights d.atoms x ok_here is.0 in
    let rest = width-fold es xs (bound_of floor_of d.weights x) (bound_of ceiling_of d.weights x) (2 * d.atoms)
    (All-tail (λ e. IsWeights e.weights) d es ok) is.1 e.at_most_one (width-counts d.weights d.atoms x ok_here is.0) in
    rw (
      isotopologue_bound-first floor_of d es x xs (omega arith),
      isotopologue_bound-first ceiling_of d es x xs (omega arith),
    )
    (le_trans rest (omega (arith, sum_by-cons (λ (e : Element). e.atoms) d es)))
