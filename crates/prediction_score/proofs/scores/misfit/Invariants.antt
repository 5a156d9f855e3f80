use Rattle.std.proofs.Common.{◌≡◌, take, sum_by}
use Rattle.prediction_score.specs.Misfits.{gap_of}
use Rattle.prediction_score.proofs.scores.misfit.Given as goal

abbrev pub invariant-loop-total : goal.invariant-loop-total
invariant-loop-total l =
    l.misfit ≡ sum_by (gap_of l.intensity l.matched l.whole) (take l.total-index l.totals)
