use Rattle.prediction_score.proofs.ReachedPeaks.{reaches-push}
use Rattle.prediction_score.proofs.columns.reaches_of.Goals as goal

pub loop-entry-preserved : goal.loop-entry-preserved
loop-entry-preserved c =
    rw c.in_ok-push.ensures.items
    (reaches-push c.args.column.now c.args.divisor c.args.tolerance c.args.entries.now c.loop-entry.reaches.items
    c.loop-entry.entry-index (record { mz = 0; place = 0 }) c.reach_of.result c.loop-entry-test.true
    c.loop-entry.invariant c.reach_of.ensures)
