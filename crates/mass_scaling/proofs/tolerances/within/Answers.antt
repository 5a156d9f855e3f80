use Rattle.std.proofs.Common.{◌≡◌, ◌*◌, ◌^◌, ◌↔◌, ℤ, pos, ◌-ℤ◌, ◌*ℤ◌, to_z, of_z, FitsSigned, lit<, arith}
use Rattle.std.specs.Prelude.{unsigned_abs, int_le, IsTrue}
use Rattle.std.specs.Int.{w128}
use Rattle.std.proofs.lemmas.Int.{ints, to_z-of_z, fits_signed_mul}
use Rattle.std.proofs.lemmas.Nat.{mul-le}
use Rattle.mass_scaling.proofs.tolerances.within.Goals as goal

same_test : (a b x y : ℤ) → a ≡ x → b ≡ y → IsTrue (int_le a b) ↔ IsTrue (int_le x y)
same_test a b x y e f = rw (e, f) (λ h. h, λ h. h)

pub returns-in-PpmCalculated : goal.returns-in-PpmCalculated
returns-in-PpmCalculated c =
    let in_range = rw c.in-PpmCalculated.is at c.requires.measured.tolerance_in_range in
    let ion = c.args.ion in
    let share = c.in-PpmCalculated.thousandths in
    let measured : c.from.result * c.from-2.result ≡ c.args.divisor * c.args.mz = cc in
    let measured_bound = mul-le c.from.result c.from-2.result 30 20000000000000000 (omega arith) (omega arith) in
    let apart : c.unsigned_abs-distance.result ≡ unsigned_abs (ion -ℤ pos (c.from.result * c.from-2.result)) =
    omega (arith, ints, c.unsigned_abs-distance.ensures.value) in
    let distance : c.unsigned_abs-distance.result ≡ unsigned_abs (ion -ℤ pos (c.args.divisor * c.args.mz)) =
    rw (← measured) apart in
    let fits : FitsSigned w128 (ion *ℤ pos share) =
    fits_signed_mul w128 ion (pos share) 9000000000000000000 1000000 c.requires.ion_in_range in_range
    (lit< tt) in
    let ion_is : to_z w128 (of_z w128 ion) ≡ ion = omega (arith, ints) in
    let share_is : to_z w128 (of_z w128 c.from-in-PpmCalculated-2.result) ≡ pos share = omega (arith, ints) in
    let spread = to_z w128 (c.unsigned_abs-distance.result * c.from-in-PpmCalculated.result) in
    let allowed =
    to_z w128
    (of_z w128 (to_z w128 (of_z w128 ion) *ℤ to_z w128 (of_z w128 c.from-in-PpmCalculated-2.result))) in
    let spread_is : spread ≡ pos (unsigned_abs (ion -ℤ pos (c.args.divisor * c.args.mz)) * 10 ^ 9) =
    rw (distance, c.from-in-PpmCalculated.ensures) (omega (arith, ints)) in
    let allowed_is : allowed ≡ ion *ℤ pos share = rw (ion_is, share_is) (to_z-of_z w128 (ion *ℤ pos share) fits) in
    rw c.in-PpmCalculated.is (same_test spread allowed _ _ spread_is allowed_is)
