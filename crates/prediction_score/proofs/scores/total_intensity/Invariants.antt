use Rattle.std.proofs.Common.{◌≡◌, take}
use Rattle.prediction_score.specs.Misfits.{total_intensity}
use Rattle.prediction_score.proofs.scores.total_intensity.Given as goal

abbrev pub invariant-loop-total : goal.invariant-loop-total
invariant-loop-total l = l.sum ≡ total_intensity l.intensity (take l.total-index l.totals)
