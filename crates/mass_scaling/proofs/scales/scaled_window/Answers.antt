use Rattle.std.proofs.Common.{refl, arith}
use Rattle.mass_scaling.proofs.scales.scaled_window.Goals as goal

pub returns-then-ends-clause-none : goal.returns-then-ends-clause-none
returns-then-ends-clause-none c = (
  λ h. absurd (cc),
  λ none. absurd (none c.ends_of-ends.result.lo
      ((c.ends_of-ends.ensures.exact c.ends_of-ends.result.lo).1 (omega arith, omega arith))),
)

pub returns-else-ends-clause-none : goal.returns-else-ends-clause-none
returns-else-ends-clause-none c = (
  λ h number in_window. let between = (c.ends_of-ends.ensures.exact number).0 in_window in absurd
      (omega (arith, between.0, between.1, c.if-ends.false)),
  λ none. refl,
)
