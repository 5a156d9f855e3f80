use Rattle.std.proofs.Common.{arith}
use Rattle.decompose.proofs.WalkClimbs.{window_at_last}
use Rattle.decompose.proofs.walk.window_at.Goals as goal

pub returns-then-place-gt0 : goal.returns-then-place-gt0
returns-then-place-gt0 c =
    window_at_last c.args.window c.args.levels.now c.args.place _ (omega arith) c.requires
