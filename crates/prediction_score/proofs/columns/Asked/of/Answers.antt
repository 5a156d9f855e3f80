use Rattle.std.proofs.Common.{refl, ◌-◌}
use Rattle.prediction_score.proofs.ReachedPeaks.{asked-slice}
use Rattle.prediction_score.proofs.columns.Asked.of.Goals as goal

pub returns : goal.returns
returns c =
    asked-slice c.args.column.now c.args.divisor c.args.tolerance c.args.entries.now c.span_of-first.result.0
    (c.span_of-first.result.1 - c.span_of-first.result.0) _ refl c.in_ok-reaches.ensures
