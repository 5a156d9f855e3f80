use Rattle.std.proofs.Common.{refl}
use Rattle.decompose.proofs.ProbeSteps.{none_at_all}
use Rattle.decompose.proofs.walk.find_left.Goals as goal

pub returns-in_default-clause-finds : goal.returns-in_default-clause-finds
returns-in_default-clause-finds g c =
    (none_at_all c.args.symbols.now c.args.window _ _ (rw c.in_default.is at c.requires.scaled), refl)
