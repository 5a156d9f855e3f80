-- The scaled masses of an alphabet: their ranges, and that they fall as the masses do.
use Rattle.std.proofs.Common.{◌≡◌, ℕ, ◌-◌, ◌*◌, ◌/◌, ◌^◌, ◌<◌, ◌≤◌, List, length, get_or, map, arith}
use Rattle.std.specs.Prelude.{AllPairs}
use Rattle.std.proofs.lemmas.Bool.Decides.{nat_tests}
use Rattle.std.proofs.lemmas.List.{get_or-map, length-map}
use Rattle.std.proofs.lemmas.List.Elements.{All-from_get_or, All-get_or}
use Rattle.std.proofs.lemmas.Nat.{le-div}
use Rattle.std.proofs.Math.Nat.{mul-le-mul_right, div-mul-le_self, div-le_of_le-mul}
use Rattle.mass_scaling.specs.Masses.{AreMasses, base_of}
use Rattle.mass_scaling.specs.Ratios.{AreRatios}
use Rattle.mass_scaling.specs.Scales.{AreScaled, grain_for, scaled_of}
use Rattle.mass_scaling.specs.declared.limits.TheConstants.{MIN_MASS, MAX_MASS, MAX_BASE_MASS, MAX_SCALED_MASS}

-- the grains are from 10^-5 to 10^-3 Da
pub fine_grain : (base : ℕ) → 10 ^ 7 ≤ grain_for base
fine_grain base = grind (arith, nat_tests)

coarse_grain : (base : ℕ) → grain_for base ≤ 10 ^ 9
coarse_grain base = grind (arith, nat_tests)

pub base_in_grains : (base : ℕ) → base ≤ 400000000000000 → base / grain_for base ≤ 1000000
base_in_grains base light = grind (arith, nat_tests)

-- whole grains fall as masses do
div_le_div : (m n k : ℕ) → 0 < k → m ≤ n → m / k ≤ n / k
div_le_div m n k some h = le-div (m / k) n k some (omega (arith, div-mul-le_self m k))

module _ (grain : ℕ) (fine : 10 ^ 7 ≤ grain) (coarse : grain ≤ 10 ^ 9) where
  some_grains : (m : ℕ) → MIN_MASS ≤ m → 1 ≤ m / grain
  some_grains m h = le-div 1 m grain (omega arith) (omega arith)

  few_grains : (m : ℕ) → m ≤ MAX_MASS → m / grain ≤ MAX_SCALED_MASS
  few_grains m h =
      let times : 10 ^ 7 * MAX_SCALED_MASS ≤ grain * MAX_SCALED_MASS = mul-le-mul_right MAX_SCALED_MASS fine in
      div-le_of_le-mul grain (omega (arith, times))

  falling : (ms : List ℕ) → AllPairs (λ m n. n ≤ m) ms → AllPairs (λ m n. n ≤ m) (map (λ m. m / grain) ms)
  falling ms h i j d lt within =
      let j_within : j < length ms = rw (length-map ms (λ m. m / grain)) at within in
      let i_within : i < length ms = omega (arith, lt, j_within) in
      rw (get_or-map (λ m. m / grain) ms i 0 d i_within, get_or-map (λ m. m / grain) ms j 0 d j_within)
      (div_le_div (get_or ms j 0) (get_or ms i 0) grain (omega arith) (h i j 0 lt j_within))

module _ (masses : List ℕ) (are : AreMasses masses) where
  same_length : length (scaled_of masses) ≡ length masses
  same_length = length-map masses (λ m. m / grain_for (base_of masses))

  at_place : (i : ℕ) → i < length masses →
      get_or (scaled_of masses) i 0 ≡ get_or masses i 0 / grain_for (base_of masses)
  at_place i h = get_or-map (λ m. m / grain_for (base_of masses)) masses i 0 0 h

  from_least : (i : ℕ) → i < length masses → MIN_MASS ≤ get_or masses i 0
  from_least i h = All-get_or (λ m. MIN_MASS ≤ m) masses i 0 h are.lower_limit

  to_greatest : (i : ℕ) → i < length masses → get_or masses i 0 ≤ MAX_MASS
  to_greatest i h = All-get_or (λ m. m ≤ MAX_MASS) masses i 0 h are.upper_limit

  some_at : (i : ℕ) → i < length masses → 1 ≤ get_or (scaled_of masses) i 0
  some_at i h =
      rw (at_place i h)
      (some_grains (grain_for (base_of masses)) (fine_grain (base_of masses)) (coarse_grain (base_of masses))
      (get_or masses i 0) (from_least i h))

  few_at : (i : ℕ) → i < length masses → get_or (scaled_of masses) i 0 ≤ MAX_SCALED_MASS
  few_at i h =
      rw (at_place i h)
      (few_grains (grain_for (base_of masses)) (fine_grain (base_of masses)) (coarse_grain (base_of masses))
      (get_or masses i 0) (to_greatest i h))

  -- a scaled mass is a mass in grains, of which each weighs at least 10^-5 Da
  pub in_grains : (i : ℕ) → i < length masses → get_or (scaled_of masses) i 0 * 10 ^ 7 ≤ get_or masses i 0
  in_grains i h =
      let m = get_or masses i 0 in
      let g = grain_for (base_of masses) in
      let fine : 10 ^ 7 * (m / g) ≤ g * (m / g) = mul-le-mul_right (m / g) (fine_grain (base_of masses)) in
      rw (at_place i h) (omega (arith, fine, div-mul-le_self m g))

  pub ratios : AreRatios masses (scaled_of masses)
  ratios = record {
    some = are.some;
    same_length = same_length;
    above_zero = λ i h. omega (arith, from_least i h);
    ys_above_zero = some_at;
    in_range = to_greatest;
    ys_in_range = λ i h. omega (arith, few_at i h);
  }

  pub are_scaled : base_of masses ≤ MAX_BASE_MASS → AreScaled (scaled_of masses)
  are_scaled light =
      let g = grain_for (base_of masses) in
      let last : length masses - 1 < length masses = omega (arith, are.some) in
      record {
        some = rw same_length are.some;
        few = rw same_length are.few;
        falling = falling g (fine_grain (base_of masses)) (coarse_grain (base_of masses)) masses are.falling;
        upper_limit = All-from_get_or (λ m. m ≤ MAX_SCALED_MASS) (scaled_of masses) 0
            (λ i h. few_at i (rw same_length at h));
        base_above_zero = rw same_length (some_at (length masses - 1) last);
        base_in_range = rw (same_length, at_place (length masses - 1) last) (base_in_grains (base_of masses) light);
      }
