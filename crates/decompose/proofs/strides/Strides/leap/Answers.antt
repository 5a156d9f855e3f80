use Rattle.std.proofs.Common.{◌-◌, arith}
use Rattle.decompose.proofs.LeapSteps.{down_fits, up_fits, leaps_down, leaps_up}
use Rattle.decompose.proofs.strides.Strides.leap.Goals as goal

pub overflow_sub-remainder-then-self-rise-2 : goal.overflow_sub-remainder-then-self-rise-2
overflow_sub-remainder-then-self-rise-2 c =
    omega (
      arith,
      down_fits c.args.self c.requires.strides c.high_half-times.result (c.args.remainder - c.args.width - 1)
          c.high_half-times.ensures c.if-self-rise.true,
    )

pub overflow_add-remainder : goal.overflow_add-remainder
overflow_add-remainder c =
    omega (
      arith,
      c.requires.remainder,
      up_fits c.args.self c.requires.strides c.high_half-times-else-self-rise.result
          (c.args.self.mass - 1 - c.args.remainder) c.high_half-times-else-self-rise.ensures c.if-self-rise.false,
    )

pub returns-then-self-rise-clause-leaps : goal.returns-then-self-rise-clause-leaps
returns-then-self-rise-clause-leaps c =
    leaps_down c.args.self c.requires.strides c.args.remainder c.args.width c.requires.remainder
    c.high_half-times.result
    (down_fits c.args.self c.requires.strides c.high_half-times.result (c.args.remainder - c.args.width - 1)
    c.high_half-times.ensures c.if-self-rise.true)
    c.if-remainder-width.false

pub returns-else-self-rise-clause-leaps : goal.returns-else-self-rise-clause-leaps
returns-else-self-rise-clause-leaps c =
    leaps_up c.args.self c.requires.strides c.args.remainder c.args.width c.requires.remainder
    c.high_half-times-else-self-rise.result
    (up_fits c.args.self c.requires.strides c.high_half-times-else-self-rise.result
    (c.args.self.mass - 1 - c.args.remainder) c.high_half-times-else-self-rise.ensures c.if-self-rise.false)
    c.if-remainder-width.false
