use Rattle.std.proofs.Common.{ℕ, refl, []}
use Rattle.decompose.specs.declared.levels.Symbol.{Symbol}
use Rattle.decompose.proofs.LevelsOfSymbols.{none_of}
use Rattle.decompose.proofs.WalkSteps.{walk_begins_not, one_found, one_none, one_written}
use Rattle.decompose.proofs.walk.find_alone.Goals as goal

-- the symbol with this least count
abbrev from_count : Symbol → ℕ → Symbol
from_count s count = record { mass = s.mass; scaled = s.scaled; limit = record { low = count; high = s.limit.high } }

pub returns-then-is_none : goal.returns-then-is_none
returns-then-is_none c =
    let over = none_of _ c.level_at.result c.if-is_none.ensures c.level_at.ensures in
    (walk_begins_not c.args.symbol [] c.args.count c.args.window over, refl)

pub returns-in_default : goal.returns-in_default
returns-in_default c =
    (one_none (from_count c.args.symbol c.args.count) c.args.window c.in_default.ensures, refl)

pub returns : goal.returns
returns c =
    let found = c.in-Some.ensures in
    rw (one_written c.args.levels.now c.in-Some.level c.requires.one) (
      one_found (from_count c.args.symbol c.args.count) c.args.window c.in-Some.level found,
      (found.is_level, tt),
    )
