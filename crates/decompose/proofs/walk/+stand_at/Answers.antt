use Rattle.decompose.proofs.WalkClimbs.{stands_empty, stands_first}
use Rattle.decompose.proofs.walk.+stand_at.Goals as goal

pub returns-in_default-clause-stands : goal.returns-in_default-clause-stands
returns-in_default-clause-stands t c =
    stands_empty c.args.symbols.now c.args.window c.args.levels.now c.in_default.ensures.cases
    c.requires.one_level_each

pub returns-in_default-level_at-clause-stands : goal.returns-in_default-level_at-clause-stands
returns-in_default-level_at-clause-stands t c =
    stands_first c.args.symbols.now c.in-Some.symbol.now c.in-Some.below.now c.args.window c.args.levels.now _
    c.in-Some.ensures.cases.0 c.requires.one_level_each c.requires.in_box c.in_default-level_at.ensures
