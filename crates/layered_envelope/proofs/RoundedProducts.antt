-- Products of two bounds in units of 10^-18, rounded up.
use Rattle.std.proofs.Common.{ℕ, suc, ◌*◌, ◌<◌, ◌≤◌, List, [], ◌∷◌, fold, arith, ⊎_elim, All}
use Rattle.std.specs.Prelude.{◌↔◌}
use Rattle.std.proofs.Math.Nat.{mul-le-mul, mul-le-mul_left, lt_of_mul-lt-mul_right, le_trans}
use Rattle.std.proofs.lemmas.Bool.{cases_lt}
use Rattle.multinomial_bounds.specs.Bounds.{certainty, ceiling_of}
use Rattle.multinomial_bounds.proofs.BoundLemmas.{ceiling_of-le, le-ceiling_of-mul, ceiling_of-positive}
use Rattle.layered_envelope.specs.Walks.{upper}

pub upper-rises : (x y a b : ℕ) → x ≤ y → a ≤ b → upper x a ≤ upper y b
unfolding upper
upper-rises x y a b left right =
    ceiling_of-le (x * a) certainty (ceiling_of (y * b) certainty) (omega arith)
    (le_trans (mul-le-mul left right) (le-ceiling_of-mul (y * b) certainty (omega arith)))

-- it is above a threshold where the product is, without a rounding
pub upper-above : (x y t : ℕ) → (t * certainty < x * y) ↔ (t < upper x y)
unfolding upper
upper-above x y t = (
  λ over. lt_of_mul-lt-mul_right certainty (omega (arith, le-ceiling_of-mul (x * y) certainty (omega arith))),
  λ over.
      ⊎_elim
      (λ (h : t * certainty < x * y). h)
      (λ (h : x * y ≤ t * certainty). absurd (omega (arith, ceiling_of-le (x * y) certainty t (omega arith) h)))
      (cases_lt (t * certainty) (x * y)),
)

pub upper-le_left : (x y : ℕ) → y ≤ certainty → upper x y ≤ x
unfolding upper
upper-le_left x y most = ceiling_of-le (x * y) certainty x (omega arith) (mul-le-mul_left x most)

pub upper-some : (x y : ℕ) → 1 ≤ x → 1 ≤ y → 1 ≤ upper x y
unfolding upper
upper-some x y first second =
    ceiling_of-positive (x * y) certainty (omega arith) (omega (arith, mul-le-mul first second))

pub fold-upper-some : (bounds : List ℕ) (x : ℕ) → 1 ≤ x → All (λ b. 1 ≤ b) bounds → 1 ≤ fold upper x bounds
fold-upper-some [] x some all = some
fold-upper-some (b ∷ bounds) x some all =
    fold-upper-some bounds (upper x b) (upper-some x b some (all 0 b (omega arith)))
    (λ k d h. all (suc k) d (omega arith))

pub fold-upper-most : (bounds : List ℕ) (x : ℕ) → x ≤ certainty → All (λ b. b ≤ certainty) bounds →
    fold upper x bounds ≤ certainty
fold-upper-most [] x most all = most
fold-upper-most (b ∷ bounds) x most all =
    fold-upper-most bounds (upper x b) (le_trans (upper-le_left x b (all 0 b (omega arith))) most)
    (λ k d h. all (suc k) d (omega arith))
