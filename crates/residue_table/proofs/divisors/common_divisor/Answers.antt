use Rattle.std.proofs.Common.{◌≡◌, ℕ, arith, subst, sym}
use Rattle.residue_table.specs.Strides.{IsStride}
use Rattle.residue_table.proofs.Cycles.{stride_end, stride_step}
use Rattle.residue_table.proofs.divisors.common_divisor.Goals as goal

pub loop-rest-preserved : goal.loop-rest-preserved
loop-rest-preserved c common s =
    c.loop-rest.invariant common (stride_step c.loop-rest.divisor c.loop-rest.rest common s)

pub returns : goal.returns
returns c =
    let divisor = c.loop-rest.divisor in
    let none : c.loop-rest.rest ≡ 0 = omega arith in
    c.loop-rest.invariant divisor
    (subst (λ (z : ℕ). IsStride divisor z divisor) (sym none) (stride_end divisor))
