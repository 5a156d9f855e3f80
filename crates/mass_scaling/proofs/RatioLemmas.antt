-- Ratios of masses to scaled masses, compared without division, and what a count list weighs in both.
use Rattle.std.proofs.Common.{◌≡◌, ℕ, ◌+◌, ◌*◌, ◌<◌, ◌≤◌, suc, List, [], ◌∷◌, length, get_or, arith, inl, inr}
use Rattle.std.proofs.lemmas.Bool.{cases_lt}
use Rattle.std.proofs.Math.Nat.{mul-le-mul_left, mul-le-mul_right}
use Rattle.mass_scaling.specs.Masses.{mass_of}
use Rattle.mass_scaling.specs.Ratios.{AreRatios}

-- a factor above 0 is taken off both sides
le_cancel : (a b k : ℕ) → 1 ≤ k → a * k ≤ b * k → a ≤ b
le_cancel a b k some h = elim (cases_lt b a) [
  | inl lt ↦ let more : b + 1 ≤ a = omega arith in absurd (omega (arith, mul-le-mul_right k more))
  | inr ge ↦ ge
]

-- x / y is at most c / b where it is at most c' / b', and that is at most c / b
pub le_trade : (x y b c b' c' : ℕ) → 1 ≤ c' → b * c' ≤ b' * c → x * b' ≤ y * c' → x * b ≤ y * c
le_trade x y b c b' c' some less h =
    let p : x * (b * c') ≤ x * (b' * c) = mul-le-mul_left x less in
    let q : c * (x * b') ≤ c * (y * c') = mul-le-mul_left c h in
    le_cancel (x * b) (y * c) c' some (omega (arith, p, q))

-- the lists the other way round
pub swapped : (xs ys : List ℕ) → AreRatios xs ys → AreRatios ys xs
swapped xs ys r = record {
  some = omega (arith, r.some, r.same_length);
  same_length = omega (arith, r.same_length);
  above_zero = λ i h. r.ys_above_zero i (omega (arith, r.same_length));
  ys_above_zero = λ i h. r.above_zero i (omega (arith, r.same_length));
  in_range = λ i h. r.ys_in_range i (omega (arith, r.same_length));
  ys_in_range = λ i h. r.in_range i (omega (arith, r.same_length));
}

-- what a count list weighs by each of two lists is in no greater ratio than the greatest of their places
pub sums_in_ratio : (xs ys counts : List ℕ) (b c : ℕ) → length ys ≡ length xs →
    ((i : ℕ) → i < length xs → b * get_or ys i 0 ≤ get_or xs i 0 * c) → b * mass_of ys counts ≤ mass_of xs counts * c
sums_in_ratio [] [] counts b c same each = omega arith
sums_in_ratio [] (y ∷ ys) counts b c same each = absurd (omega arith)
sums_in_ratio (x ∷ xs) [] counts b c same each = absurd (omega arith)
sums_in_ratio (x ∷ xs) (y ∷ ys) [] b c same each = omega arith
sums_in_ratio (x ∷ xs) (y ∷ ys) (n ∷ ns) b c same each =
    let first : b * y ≤ x * c = each 0 (omega arith) in
    let rest : b * mass_of ys ns ≤ mass_of xs ns * c =
    sums_in_ratio xs ys ns b c (omega arith) (λ i h. each (suc i) (omega arith)) in
    let times : n * (b * y) ≤ n * (x * c) = mul-le-mul_left n first in
    omega (arith, rest, times)
