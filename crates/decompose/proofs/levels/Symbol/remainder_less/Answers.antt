use Rattle.std.proofs.Common.{arith}
use Rattle.decompose.proofs.LevelsOfSymbols.{remainder_less, remainder_less_more}
use Rattle.decompose.proofs.levels.Symbol.remainder_less.Goals as goal

pub returns-then-step-remainder : goal.returns-then-step-remainder
returns-then-step-remainder c = λ number less fits r s.
    remainder_less c.args.self.mass number less c.args.remainder c.args.step fits r s c.requires.remainder
    c.requires.step (omega arith)

pub returns-else-step-remainder : goal.returns-else-step-remainder
returns-else-step-remainder c = λ number less fits r s.
    remainder_less_more c.args.self.mass number less c.args.remainder c.args.step fits r s c.requires.remainder
    c.requires.step (omega arith)
