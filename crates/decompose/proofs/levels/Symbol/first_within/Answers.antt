use Rattle.std.proofs.Common.{◌≡◌, max, arith}
use Rattle.std.specs.Int.{div_ceil}
use Rattle.decompose.proofs.LevelsOfSymbols.{none_at_all, first_within}
use Rattle.decompose.proofs.levels.Symbol.first_within.Goals as goal

pub returns-then-from-least : goal.returns-then-from-least
returns-then-from-least c =
    let least : c.max-least.result ≡ max c.args.self.limit.low (div_ceil c.args.window.lo c.args.self.mass) = (cc) in
    none_at_all c.args.self c.args.window c.requires c.max-least.result least (omega arith)

pub returns : goal.returns
returns c =
    let least : c.max-least.result ≡ max c.args.self.limit.low (div_ceil c.args.window.lo c.args.self.mass) = (cc) in
    first_within c.args.self c.args.window c.requires c.max-least.result least c.level_at.result (omega arith)
    c.level_at.ensures
