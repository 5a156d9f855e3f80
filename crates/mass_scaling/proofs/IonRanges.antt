-- The masses of ions within tolerance are those of one range.
use Rattle.std.proofs.Common.{◌≡◌, ℕ, zero, suc, neg_ℤ, true, ◌+◌, ◌-◌, ◌*◌, ◌/◌, ◌^◌, ◌<◌, ◌≤◌, ◌↔◌}
use Rattle.std.proofs.Common.{ℤ, pos, negsuc, ◌+ℤ◌, ◌-ℤ◌, ap, arith, inl, inr}
use Rattle.std.specs.Prelude.{unsigned_abs, int_le}
use Rattle.std.specs.Int.{div_ceil}
use Rattle.std.proofs.lemmas.Int.{ints}
use Rattle.std.proofs.lemmas.Grind.{div_ceil_times}
use Rattle.std.proofs.lemmas.Bool.{cases_lt, leb-true, le-leb}
use Rattle.std.proofs.Math.Nat.{le-div_iff_mul-le, mul-le-mul_left, mul-le-mul_right, div-le_of_le-mul}
use Rattle.mass_scaling.specs.Tolerances.{Within}
use Rattle.mass_scaling.specs.Ranges.{Lies}
use Rattle.mass_scaling.specs.declared.tolerances.Tolerance.{Tolerance}
use Rattle.mass_scaling.specs.declared.tolerances.Tolerance.TheVariants.{Ppm, Da, PpmCalculated}

-- the masses that are at most so far from another
near : (ion : ℤ) (center farthest : ℕ) (low high : ℤ) → low ≡ pos center -ℤ pos farthest →
    high ≡ pos center +ℤ pos farthest → (unsigned_abs (ion -ℤ pos center) ≤ farthest) ↔ Lies ion low high
near ion center farthest low high e f =
    (λ h. (omega (arith, ints), omega (arith, ints)), λ h. omega (arith, ints, h.0, h.1))

module _ (mz divisor center : ℕ) (tolerance : Tolerance) (low high : ℤ) (is_center : center ≡ divisor * mz) where
  -- tolerance in units of mass
  pub da_range : (units farthest : ℕ) → tolerance ≡ Da units → farthest ≡ divisor * units →
      low ≡ pos center -ℤ pos farthest → high ≡ pos center +ℤ pos farthest → (ion : ℤ) →
      Within ion mz tolerance divisor ↔ Lies ion low high
  da_range units farthest is is_farthest e f ion =
      let n = near ion center farthest low high e f in
      rw (is, ← is_center, ← is_farthest) (λ h. n.0 (leb-true _ _ h), λ h. le-leb _ _ (n.1 h))

  -- tolerance in parts of the measured mass
  pub ppm_range : (share parts farthest : ℕ) → tolerance ≡ Ppm share → parts ≡ center * share →
      farthest ≡ parts / 10 ^ 9 → low ≡ pos center -ℤ pos farthest → high ≡ pos center +ℤ pos farthest → (ion : ℤ) →
      Within ion mz tolerance divisor ↔ Lies ion low high
  ppm_range share parts farthest is is_parts is_farthest e f ion =
      let n = near ion center (parts / 10 ^ 9) low high (rw (← is_farthest) e) (rw (← is_farthest) f) in
      let apart = unsigned_abs (ion -ℤ pos center) in
      let quotient : (apart ≤ parts / 10 ^ 9) ↔ (apart * 10 ^ 9 ≤ parts) = le-div_iff_mul-le (omega arith) in
      rw (is, ← is_center, ← is_parts) (λ h. n.0 (quotient.1 (leb-true _ _ h)), λ h. le-leb _ _ (quotient.0 (n.1 h)))

-- a whole number is at least a quotient rounded up
pub ceil_le : (n k m : ℕ) → 0 < k → (div_ceil n k ≤ m) ↔ (n ≤ m * k)
ceil_le n k m pos_k = (
  λ h. omega (arith, (div_ceil_times n k pos_k).0, mul-le-mul_right k h),
  λ h. elim (cases_lt m (div_ceil n k)) [
    | inl lt ↦ let above : m + 1 ≤ div_ceil n k = omega arith in absurd
        (omega (arith, (div_ceil_times n k pos_k).1, mul-le-mul_right k above))
    | inr ge ↦ ge
  ],
)

module _ (center share less : ℕ) (some : 1 ≤ center) (rest : less + share ≡ 10 ^ 9) where
  -- a mass m above 0 is at most m parts from the center
  calculated : (m : ℕ) →
      (unsigned_abs (pos m -ℤ pos center) * 10 ^ 9 ≤ m * share)
      ↔ ((center * 10 ^ 9 ≤ m * (10 ^ 9 + share)) × (m * less ≤ center * 10 ^ 9))
  calculated m =
      let whole : m * (less + share) ≡ m * 10 ^ 9 = ap (λ (x : ℕ). m * x) rest in
      elim (cases_lt m center) [
        | inl lt ↦
            let d : unsigned_abs (pos m -ℤ pos center) ≡ center - m = omega (arith, ints) in
            rw d (λ h. (omega (arith, whole), omega (arith, whole)), λ h. omega (arith, whole, h.0, h.1))
        | inr ge ↦
            let d : unsigned_abs (pos m -ℤ pos center) ≡ m - center = omega (arith, ints) in
            rw d (λ h. (omega (arith, whole), omega (arith, whole)), λ h. omega (arith, whole, h.0, h.1))
      ]

-- nothing above 0 is at most a number that isn't
not_above : (x n : ℕ) → 0 < x → int_le (pos x) (neg_ℤ (pos n)) ≡ true → ⊥
not_above x zero h e = omega (arith, leb-true x 0 e)
not_above x (suc n) h e = absurd (cc)

-- tolerance in parts of the ion's own mass
pub calculated_range : (mz divisor center scale share less lowest highest : ℕ) (tolerance : Tolerance) (low high : ℤ) →
    center ≡ divisor * mz → 1 ≤ center → scale ≡ 10 ^ 9 → 1 ≤ less → less + share ≡ scale →
    tolerance ≡ PpmCalculated share → lowest ≡ div_ceil (center * scale) (scale + share) →
    highest ≡ center * scale / less → low ≡ pos lowest → high ≡ pos highest → (ion : ℤ) →
    Within ion mz tolerance divisor ↔ Lies ion low high
calculated_range mz divisor center scale share less lowest highest tolerance low high is_center some is_scale
    less_some rest is is_lowest is_highest e f (pos m) =
    let parts = calculated center share less some (rw is_scale at rest) m in
    let up = ceil_le (center * 10 ^ 9) (10 ^ 9 + share) m (omega arith) in
    let down : (m ≤ center * 10 ^ 9 / less) ↔ (m * less ≤ center * 10 ^ 9) = le-div_iff_mul-le less_some in
    rw (is, e, f, is_lowest, is_highest, is_scale, ← is_center) (
      λ h. let k = parts.0 (leb-true _ _ h) in (omega (arith, ints, up.1 k.0), omega (arith, ints, down.1 k.1)),
      λ h. le-leb _ _ (parts.1 (up.0 (omega (arith, ints, h.0)), down.0 (omega (arith, ints, h.1)))),
    )
calculated_range mz divisor center scale share less lowest highest tolerance low high is_center some is_scale
    less_some rest is is_lowest is_highest e f (negsuc m) =
    let far : 0 < unsigned_abs (negsuc m -ℤ pos center) = omega (arith, ints) in
    rw (is, ← is_center) (
      λ h. absurd (not_above (unsigned_abs (negsuc m -ℤ pos center) * 10 ^ 9) (suc m * share) (omega (arith, far)) h),
      λ h. absurd (omega (arith, ints, h.0)),
    )

-- a quotient by at least half of what was multiplied by is at most twice as much
pub quotient_at_most : (n scale less : ℕ) → 0 < less → scale ≤ less * 2 → n * scale / less ≤ n * 2
quotient_at_most n scale less some half =
    let twice : n * scale ≤ n * (less * 2) = mul-le-mul_left n half in
    div-le_of_le-mul less (omega (arith, twice))

-- a number times a scale, parted into more, is at most the number
pub ceil_at_most : (n scale share : ℕ) → 0 < scale → div_ceil (n * scale) (scale + share) ≤ n
ceil_at_most n scale share some = (ceil_le (n * scale) (scale + share) n (omega arith)).1 (omega arith)
