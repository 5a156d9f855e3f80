-- The numbers of the scaled window are those between two quotients, and no count list is lost.
use Rattle.std.proofs.Common.{◌≡◌, ℕ, ◌*◌, ◌/◌, ◌^◌, ◌<◌, ◌≤◌, ◌↔◌, List, length, get_or, arith}
use Rattle.std.specs.Int.{div_ceil}
use Rattle.std.proofs.Math.Nat.{le-div_iff_mul-le, div-mul-le_self, mul-le-mul_left, mul-le-mul_right}
use Rattle.mass_scaling.specs.declared.windows.Window.{Window}
use Rattle.mass_scaling.specs.Masses.{AreMasses, mass_of}
use Rattle.mass_scaling.specs.Windows.{Holds}
use Rattle.mass_scaling.specs.Scales.{IsInScaledWindow, IsLeastRatio, scaled_of}
use Rattle.mass_scaling.proofs.IonRanges.{ceil_le}
use Rattle.mass_scaling.proofs.RatioLemmas.{le_trade, sums_in_ratio}
use Rattle.mass_scaling.proofs.ScaledMasses.{in_grains, ratios}

module _ (masses : List ℕ) (are : AreMasses masses) (window : Window) (u v : ℕ)
    (least : IsLeastRatio masses (scaled_of masses) u) (greatest : IsLeastRatio (scaled_of masses) masses v) where
  same_length : length (scaled_of masses) ≡ length masses
  same_length = (ratios masses are).same_length

  v_within : v < length masses
  v_within = omega (arith, greatest.within, same_length)

  lower : (n : ℕ) → IsInScaledWindow masses window n →
      window.lo * get_or (scaled_of masses) v 0 ≤ n * get_or masses v 0
  lower n h =
      let w = h.not_below.0 in
      let w_within : w < length masses = omega (arith, h.not_below.1.within, same_length) in
      le_trade window.lo n (get_or (scaled_of masses) v 0) (get_or masses v 0) (get_or (scaled_of masses) w 0)
      (get_or masses w 0) ((ratios masses are).above_zero w w_within) (greatest.least w h.not_below.1.within)
      h.not_below.2

  upper : (n : ℕ) → IsInScaledWindow masses window n →
      n * get_or masses u 0 ≤ window.hi * get_or (scaled_of masses) u 0
  upper n h =
      let w = h.not_above.0 in
      le_trade n window.hi (get_or masses u 0) (get_or (scaled_of masses) u 0) (get_or masses w 0)
      (get_or (scaled_of masses) w 0) ((ratios masses are).ys_above_zero w h.not_above.1.within)
      (least.least w h.not_above.1.within) h.not_above.2

  -- the numbers of the scaled window
  pub between : (lo hi : ℕ) → lo ≡ div_ceil (window.lo * get_or (scaled_of masses) v 0) (get_or masses v 0) →
      hi ≡ window.hi * get_or (scaled_of masses) u 0 / get_or masses u 0 → (n : ℕ) →
      IsInScaledWindow masses window n ↔ ((lo ≤ n) × (n ≤ hi))
  between lo hi is_lo is_hi n =
      let some_v = (ratios masses are).above_zero v v_within in
      let some_u = (ratios masses are).above_zero u least.within in
      let up = ceil_le (window.lo * get_or (scaled_of masses) v 0) (get_or masses v 0) n some_v in
      let down : (n ≤ window.hi * get_or (scaled_of masses) u 0 / get_or masses u 0)
      ↔ (n * get_or masses u 0 ≤ window.hi * get_or (scaled_of masses) u 0) = le-div_iff_mul-le some_u in (
        λ h. (rw is_lo (up.1 (lower n h)), rw is_hi (down.1 (upper n h))),
        λ h. record {
          not_below = (v, greatest, up.0 (rw is_lo at h.0));
          not_above = (u, least, down.0 (rw is_hi at h.1));
        },
      )

  -- a count list whose mass is in the window has its scaled mass in the scaled window
  pub loses_nothing : (counts : List ℕ) → Holds window (mass_of masses counts) →
      IsInScaledWindow masses window (mass_of (scaled_of masses) counts)
  loses_nothing counts h =
      let a = scaled_of masses in
      let low : get_or a v 0 * mass_of masses counts ≤ mass_of a counts * get_or masses v 0 =
      sums_in_ratio a masses counts (get_or a v 0) (get_or masses v 0) (omega (arith, same_length)) greatest.least in
      let high : get_or masses u 0 * mass_of a counts ≤ mass_of masses counts * get_or a u 0 =
      sums_in_ratio masses a counts (get_or masses u 0) (get_or a u 0) same_length least.least in
      let from_lo : get_or a v 0 * window.lo ≤ get_or a v 0 * mass_of masses counts = mul-le-mul_left (get_or a v 0) h.0
      in
      let to_hi : mass_of masses counts * get_or a u 0 ≤ window.hi * get_or a u 0 =
      mul-le-mul_right (get_or a u 0) h.1 in
      record {
        not_below = (v, greatest, omega (arith, low, from_lo));
        not_above = (u, least, omega (arith, high, to_hi));
      }

  -- the ends of the scaled window are at most so many grains as the window's
  pub hi_in_grains : (hi : ℕ) → hi ≡ window.hi * get_or (scaled_of masses) u 0 / get_or masses u 0 →
      hi * 10 ^ 7 ≤ window.hi
  hi_in_grains hi is_hi =
      let a = get_or (scaled_of masses) u 0 in
      let m = get_or masses u 0 in
      let times : hi * m ≤ window.hi * a = rw is_hi (div-mul-le_self (window.hi * a) m) in
      let grains : 10 ^ 7 * a ≤ m * 1 = omega (arith, in_grains masses are u least.within) in
      let traded : hi * 10 ^ 7 ≤ window.hi * 1 =
      le_trade hi window.hi (10 ^ 7) 1 m a ((ratios masses are).ys_above_zero u least.within) grains times in
      omega (arith, traded)

  pub lo_fits : div_ceil (window.lo * get_or (scaled_of masses) v 0) (get_or masses v 0) ≤ window.lo
  lo_fits =
      let a = get_or (scaled_of masses) v 0 in
      let m = get_or masses v 0 in
      let grains : a ≤ m = omega (arith, in_grains masses are v v_within) in
      (ceil_le (window.lo * a) m window.lo ((ratios masses are).above_zero v v_within)).1
      (mul-le-mul_left window.lo grains)
