use Rattle.std.proofs.Common.{arith}
use Rattle.decompose.proofs.LevelsOfSymbols.{counts_more}
use Rattle.decompose.proofs.levels.write_counts.Goals as goal

pub loop-place-preserved : goal.loop-place-preserved
loop-place-preserved c =
    rw c.loop-place.invariant
    (counts_more c.args.levels.now c.args.counts.now c.loop-place.place _ (omega arith) c.requires)
