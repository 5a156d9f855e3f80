-- The masses of which so many copies lie in a range, and the window of those whose ions do.
use Rattle.std.proofs.Common.{◌≡◌, ℕ, ◌*◌, ◌/◌, ◌≤◌, ◌↔◌, ℤ, pos, ◌+ℤ◌, ◌-ℤ◌, ◌≤ℤ◌, Option, Some, None, refl, arith}
use Rattle.std.specs.Int.{div_ceil}
use Rattle.std.proofs.lemmas.Int.{ints}
use Rattle.std.proofs.Math.Nat.{le-div_iff_mul-le, one-le-mul}
use Rattle.std.specs.Prelude.{IfSome, IsNone}
use Rattle.mass_scaling.specs.Tolerances.{Within}
use Rattle.mass_scaling.specs.Windows.{IsWindow, IsWindowOf, IsMassWithin, NoMassIsWithin, ion_mass}
use Rattle.mass_scaling.specs.Ranges.{Lies, HoldsMultiples}
use Rattle.mass_scaling.specs.declared.tolerances.Tolerance.{Tolerance}
use Rattle.mass_scaling.specs.declared.windows.Charged.{Charged}
use Rattle.mass_scaling.specs.declared.windows.Window.{Window}
use Rattle.mass_scaling.proofs.IonRanges.{ceil_le}

pub copies_between : (copies mass least greatest : ℕ) (low high : ℤ) → 1 ≤ copies → 1 ≤ mass → low ≤ℤ pos least →
    ((x : ℕ) → 1 ≤ x → low ≤ℤ pos x → least ≤ x) → high ≡ pos greatest →
    Lies (pos (copies * mass)) low high ↔ ((div_ceil least copies ≤ mass) × (mass ≤ greatest / copies))
copies_between copies mass least greatest low high some one le least_le is =
    let up = ceil_le least copies mass some in
    let down : (mass ≤ greatest / copies) ↔ (mass * copies ≤ greatest) = le-div_iff_mul-le some in (
      λ h.
          (up.1 (omega (arith, least_le (copies * mass) (one-le-mul some one) h.0)), down.1 (omega (arith, ints, h.1))),
      λ h. (omega (arith, ints, up.0 h.0), omega (arith, ints, down.0 h.1)),
    )

-- what so many copies weigh, without and with the shift of an ion
shifted : (mass shift low high from to : ℤ) → from ≡ low -ℤ shift → to ≡ high -ℤ shift →
    Lies mass from to ↔ Lies (mass +ℤ shift) low high
shifted mass shift low high from to e f = (
  λ h. (omega (arith, ints, h.0), omega (arith, ints, h.1)),
  λ h. (omega (arith, ints, h.0), omega (arith, ints, h.1)),
)

module _ (mz : ℕ) (tolerance : Tolerance) (ion : Charged) (low high from to : ℤ)
    (is_from : from ≡ low -ℤ ion.shift) (is_to : to ≡ high -ℤ ion.shift)
    (range : (m : ℤ) → Within m mz tolerance ion.divisor ↔ Lies m low high) where
  shift_of : (mass : ℕ) → Lies (pos (ion.copies * mass)) from to ↔ Lies (ion_mass ion mass) low high
  shift_of mass = shifted (pos (ion.copies * mass)) ion.shift low high from to is_from is_to

  lies : (mass : ℕ) → IsMassWithin mz tolerance ion mass → Lies (pos (ion.copies * mass)) from to
  lies mass h = (shift_of mass).1 ((range (ion_mass ion mass)).0 h)

  is_window_of : (window : Window) → IsWindow window → HoldsMultiples ion.copies from to window →
      IsWindowOf mz tolerance ion window
  is_window_of window w holds =
      let within_between =
      λ (mass : ℕ) (one : 1 ≤ mass) (h : (window.lo ≤ mass) × (mass ≤ window.hi)).
      (range (ion_mass ion mass)).1 ((shift_of mass).0 ((holds mass one).1 h)) in
      record {
        lo_within = within_between window.lo w.above_zero (omega arith, w.not_empty);
        hi_within = within_between window.hi (omega (arith, w.above_zero, w.not_empty)) (w.not_empty, omega arith);
        none_below = λ mass one below h. omega (arith, ((holds mass one).0 (lies mass h)).0);
        none_above = λ mass above h. omega
            (arith, ((holds mass (omega (arith, w.above_zero, w.not_empty))).0 (lies mass h)).1);
        all_between = λ mass low_end high_end. within_between mass (omega (arith, w.above_zero)) (low_end, high_end);
      }

  pub some_window : (found : Option Window) → IfSome found IsWindow →
      IfSome found (HoldsMultiples ion.copies from to) → IfSome found (IsWindowOf mz tolerance ion)
  some_window None w holds = tt
  some_window (Some window) w holds = is_window_of window w holds

  pub no_window : (found : Option Window) → IfSome found IsWindow → IfSome found (HoldsMultiples ion.copies from to) →
      (IsNone found → (mass : ℕ) → 1 ≤ mass → Lies (pos (ion.copies * mass)) from to → ⊥) →
      IsNone found ↔ NoMassIsWithin mz tolerance ion
  no_window None w holds none = (λ h mass one m. none h mass one (lies mass m), λ h. refl)
  no_window (Some window) w holds none = (
    λ h. absurd (cc),
    λ h. absurd (h window.lo w.above_zero (is_window_of window w holds).lo_within),
  )
