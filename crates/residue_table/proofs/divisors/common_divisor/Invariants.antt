use Rattle.std.proofs.Common.{ℕ}
use Rattle.residue_table.specs.Strides.{IsStride}
use Rattle.residue_table.proofs.divisors.common_divisor.Given as goal

abbrev pub invariant-loop-rest : goal.invariant-loop-rest
invariant-loop-rest l = (common : ℕ) → IsStride l.divisor l.rest common → IsStride l.fn.modulus l.fn.step common

abbrev pub decreases-loop-rest : goal.decreases-loop-rest
decreases-loop-rest l = l.rest
