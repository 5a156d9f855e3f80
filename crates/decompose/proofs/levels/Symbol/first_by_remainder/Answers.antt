use Rattle.std.proofs.Common.{◌-◌, arith}
use Rattle.decompose.proofs.LevelsOfSymbols.{none_by_remainder}
use Rattle.decompose.proofs.levels.Symbol.first_by_remainder.Goals as goal

pub returns-then-width-remainder : goal.returns-then-width-remainder
returns-then-width-remainder c =
    none_by_remainder c.args.self record { lo = c.args.hi - c.args.width; hi = c.args.hi } c.requires.positive
    (omega arith) (omega (arith, c.requires.remainder, c.if-width-remainder.true))
