-- Enclosures stay enclosures when they are multiplied by an exact quotient of at most 1, or by each
-- other, with lower bounds rounded down and upper ones up.
use Rattle.std.proofs.Common.{◌≡◌, ℕ, ◌+◌, ◌*◌, ◌<◌, ◌≤◌, ap, arith}
use Rattle.std.proofs.Math.Nat.{div-mul-le_self, le_of_mul-le-mul_right, lt_of_mul-lt-mul_right, mul-le-mul_left}
use Rattle.std.proofs.Math.Nat.{mul-le-mul_right, mul-le-mul, mul-pos, le_trans}
use Rattle.std.proofs.lemmas.Grind.{div_ceil_times}
use Rattle.multinomial_bounds.specs.Bounds.{certainty, floor_of, ceiling_of, IsEnclosure}

pub floor_of-mul-le : (n b : ℕ) → floor_of n b * b ≤ n
floor_of-mul-le n b = div-mul-le_self n b

pub le-ceiling_of-mul : (n b : ℕ) → 0 < b → n ≤ ceiling_of n b * b
le-ceiling_of-mul n b pos = (div_ceil_times n b pos).0

pub floor_of-le-ceiling_of : (m n b : ℕ) → 0 < b → m ≤ n → floor_of m b ≤ ceiling_of n b
floor_of-le-ceiling_of m n b pos le =
    le_of_mul-le-mul_right (le_trans (div-mul-le_self m b) (le_trans le (le-ceiling_of-mul n b pos))) pos

pub ceiling_of-positive : (n b : ℕ) → 0 < b → 1 ≤ n → 1 ≤ ceiling_of n b
ceiling_of-positive n b pos some =
    lt_of_mul-lt-mul_right b (omega (arith, le-ceiling_of-mul n b pos))

pub ceiling_of-le : (n b m : ℕ) → 0 < b → n ≤ m * b → ceiling_of n b ≤ m
ceiling_of-le n b m pos le =
    let up : ceiling_of n b * b < (m + 1) * b = omega (arith, (div_ceil_times n b pos).1) in
    let h : ceiling_of n b < m + 1 = lt_of_mul-lt-mul_right b up in
    omega arith

-- over plain numbers, with the unit as a variable
lower_step : (u q b lo f f' a g w : ℕ) → 0 < b → q * b ≤ lo * a → lo * w ≤ u * f → f * a * g ≡ f' * b →
    q * (w * g) ≤ u * f'
lower_step u q b lo f f' a g w pos rounded below exact =
    let h : q * (w * g) * b ≤ u * f' * b =
    omega (arith, mul-le-mul_right (w * g) rounded, mul-le-mul_right (a * g) below, ap (λ t. u * t) exact) in
    le_of_mul-le-mul_right h pos

upper_step : (u r b hi f f' a g w : ℕ) → 0 < b → hi * a ≤ r * b → u * f ≤ hi * w → f * a * g ≡ f' * b →
    u * f' ≤ r * (w * g)
upper_step u r b hi f f' a g w pos rounded above exact =
    let h : u * f' * b ≤ r * (w * g) * b =
    omega (arith, mul-le-mul_right (w * g) rounded, mul-le-mul_right (a * g) above, ap (λ t. u * t) exact) in
    le_of_mul-le-mul_right h pos

-- The probability changes by the factor a / b, which is above 0 and at most 1. The weight of all
-- counts grows by the factor g.
pub IsEnclosure-step : (lo hi f f' a b g w : ℕ) → 1 ≤ a → a ≤ b → IsEnclosure lo hi f w → f * a * g ≡ f' * b →
    IsEnclosure (floor_of (lo * a) b) (ceiling_of (hi * a) b) f' (w * g)
IsEnclosure-step lo hi f f' a b g w some most e exact =
    let pos : 0 < b = omega arith in
    let below : hi * a ≤ hi * b = mul-le-mul_left hi most in
    let falls : ceiling_of (hi * a) b ≤ hi = ceiling_of-le (hi * a) b hi pos below in
    record {
      ordered = floor_of-le-ceiling_of (lo * a) (hi * a) b pos (mul-le-mul_right a e.ordered);
      positive = ceiling_of-positive (hi * a) b pos (mul-pos e.positive some);
      at_most_one = le_trans falls e.at_most_one;
      from_below = lower_step certainty _ b lo f f' a g w pos (floor_of-mul-le (lo * a) b) e.from_below exact;
      from_above = upper_step certainty _ b hi f f' a g w pos (le-ceiling_of-mul (hi * a) b pos) e.from_above exact;
    }

-- the same, where the weight of all counts stays
pub IsEnclosure-move : (lo hi f f' a b w : ℕ) → 1 ≤ a → a ≤ b → IsEnclosure lo hi f w → f' * b ≡ f * a →
    IsEnclosure (floor_of (lo * a) b) (ceiling_of (hi * a) b) f' w
IsEnclosure-move lo hi f f' a b w some most e exact =
    let all : w * 1 ≡ w = omega arith in
    let moved : f * a * 1 ≡ f' * b = omega arith in
    rw all at (IsEnclosure-step lo hi f f' a b 1 w some most e moved)

-- the product of two probabilities
lower_times : (u q lo lo' f f' w w' : ℕ) → 0 < u → q * u ≤ lo * lo' → lo * w ≤ u * f → lo' * w' ≤ u * f' →
    q * (w * w') ≤ u * (f * f')
lower_times u q lo lo' f f' w w' pos rounded below below' =
    let h : q * (w * w') * u ≤ u * (f * f') * u =
    omega (arith, mul-le-mul_right (w * w') rounded, mul-le-mul below below') in
    le_of_mul-le-mul_right h pos

upper_times : (u r hi hi' f f' w w' : ℕ) → 0 < u → hi * hi' ≤ r * u → u * f ≤ hi * w → u * f' ≤ hi' * w' →
    u * (f * f') ≤ r * (w * w')
upper_times u r hi hi' f f' w w' pos rounded above above' =
    let h : u * (f * f') * u ≤ r * (w * w') * u =
    omega (arith, mul-le-mul_right (w * w') rounded, mul-le-mul above above') in
    le_of_mul-le-mul_right h pos

pub IsEnclosure-times : (lo hi lo' hi' f w f' w' : ℕ) → IsEnclosure lo hi f w → IsEnclosure lo' hi' f' w' →
    IsEnclosure (floor_of (lo * lo') certainty) (ceiling_of (hi * hi') certainty) (f * f') (w * w')
IsEnclosure-times lo hi lo' hi' f w f' w' e e' =
    let pos : 0 < certainty = omega arith in
    let below : hi * hi' ≤ hi * certainty = mul-le-mul_left hi e'.at_most_one in
    let falls : ceiling_of (hi * hi') certainty ≤ hi = ceiling_of-le (hi * hi') certainty hi pos below in
    record {
      ordered = floor_of-le-ceiling_of (lo * lo') (hi * hi') certainty pos (mul-le-mul e.ordered e'.ordered);
      positive = ceiling_of-positive (hi * hi') certainty pos (mul-pos e.positive e'.positive);
      at_most_one = le_trans falls e.at_most_one;
      from_below = lower_times certainty _ lo lo' f f' w w' pos (floor_of-mul-le (lo * lo') certainty) e.from_below e'.from_below;
      from_above = upper_times certainty _ hi hi' f f' w w' pos (le-ceiling_of-mul (hi * hi') certainty pos) e.from_above e'.from_above;
    }
