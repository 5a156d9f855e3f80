use Rattle.std.proofs.Common.{rules}
use Rattle.fixed_decimal.proofs.NumbersInRange.{decimal_within-none}
use Rattle.fixed_decimal.proofs.Fixed.read_within.Goals as goal

pub returns-in_err-fixed-clause-none : goal.returns-in_err-fixed-clause-none
returns-in_err-fixed-clause-none g c =
    decimal_within-none g.row.D c.args.low c.args.high c.args.text.now _ (search rules)

pub returns-clause-none : goal.returns-clause-none
returns-clause-none g c =
    decimal_within-none g.row.D c.args.low c.args.high c.args.text.now c.then_some.result (search rules)
