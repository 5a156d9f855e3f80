use Rattle.std.proofs.Common.{◌*◌, ◌-◌, ◌/◌, refl, arith}
use Rattle.std.proofs.lemmas.Int.{ints}
use Rattle.std.proofs.lemmas.Nat.{mul-le}
use Rattle.std.proofs.Math.Nat.{one-le-mul, div-le_self}
use Rattle.mass_scaling.proofs.IonRanges.{da_range, ppm_range, calculated_range, quotient_at_most, ceil_at_most}
use Rattle.mass_scaling.proofs.windows.ions_within.Goals as goal

pub returns-in-Da-clause-exact : goal.returns-in-Da-clause-exact
returns-in-Da-clause-exact c =
    let in_range = rw c.in-Da.is at c.requires.tolerance_in_range in
    let measured = c.from.result * c.from-2.result in
    let center = mul-le c.from.result c.from-2.result 30 20000000000000000 (omega arith) (omega arith) in
    let farthest = mul-le c.from-in-Da.result c.from-in-Da-2.result 30 10000000000000 (omega arith) (omega arith) in
    da_range _ _ measured _ _ _ (cc) _ (c.from-in-Da.result * c.from-in-Da-2.result) c.in-Da.is (cc)
    (omega (arith, ints)) (omega (arith, ints))

pub returns-in-Ppm-clause-exact : goal.returns-in-Ppm-clause-exact
returns-in-Ppm-clause-exact c =
    let in_range = rw c.in-Ppm.is at c.requires.tolerance_in_range in
    let measured = c.from.result * c.from-2.result in
    let center = mul-le c.from.result c.from-2.result 30 20000000000000000 (omega arith) (omega arith) in
    let parts = mul-le measured c.from-in-Ppm.result 600000000000000000 1000000 (omega arith) (omega arith) in
    let farthest = div-le_self (measured * c.from-in-Ppm.result) c.from-scale.result in
    ppm_range _ _ measured _ _ _ (cc) _ (measured * c.from-in-Ppm.result)
    (measured * c.from-in-Ppm.result / c.from-scale.result) c.in-Ppm.is (cc) (cc) (omega (arith, ints))
    (omega (arith, ints))

pub returns-in-PpmCalculated-clause-exact : goal.returns-in-PpmCalculated-clause-exact
returns-in-PpmCalculated-clause-exact c =
    let in_range = rw c.in-PpmCalculated.is at c.requires.tolerance_in_range in
    let measured = c.from.result * c.from-2.result in
    let center = mul-le c.from.result c.from-2.result 30 20000000000000000 (omega arith) (omega arith) in
    let some = one-le-mul {a = c.from.result} {b = c.from-2.result} (omega arith) (omega arith) in
    let less = c.from-scale.result - c.from-share.result in
    let highest = quotient_at_most measured c.from-scale.result less (omega arith) (omega arith) in
    let lowest =
    rw (← c.div_ceil.ensures) at (ceil_at_most measured c.from-scale.result c.from-share.result (omega arith))
    in
    calculated_range _ _ measured c.from-scale.result c.from-share.result less c.div_ceil.result
    (measured * c.from-scale.result / less) _ _ _ (cc) some
    c.from-scale.ensures (omega arith) (omega arith) (cc) c.div_ceil.ensures refl (omega (arith, ints, lowest))
    (omega (arith, ints))

pub returns-in-PpmCalculated-clause-high_in_range : goal.returns-in-PpmCalculated-clause-high_in_range
returns-in-PpmCalculated-clause-high_in_range c =
    let in_range = rw c.in-PpmCalculated.is at c.requires.tolerance_in_range in
    let measured = c.from.result * c.from-2.result in
    let center = mul-le c.from.result c.from-2.result 30 20000000000000000 (omega arith) (omega arith) in
    let less = c.from-scale.result - c.from-share.result in
    let highest = quotient_at_most measured c.from-scale.result less (omega arith) (omega arith) in
    omega (arith, ints)
