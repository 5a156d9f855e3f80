use Rattle.std.proofs.Common.{◌≤◌, length, get_or, take, arith}
use Rattle.std.proofs.lemmas.List.{length-take}
use Rattle.prediction_score.proofs.ScoreSums.{total_intensity-le}
use Rattle.prediction_score.proofs.scores.total_intensity.Goals as goal

pub overflow_add-sum : goal.overflow_add-sum
overflow_add-sum c =
    let bound = total_intensity-le c.args.intensity.now (take c.loop-total.total-index c.args.totals.now)
    (λ k. omega (arith, c.type_inv.intensity k)) in
    let size : length (take c.loop-total.total-index c.args.totals.now) ≤ c.loop-total.total-index =
    omega (arith, length-take c.loop-total.total-index c.args.totals.now) in
    let next = c.type_inv.intensity
    (get_or c.args.totals.now c.loop-total.total-index (record { place = 0; lo = 0 })).place in
    omega (arith, c.loop-total.invariant, c.from-sum.ensures)
