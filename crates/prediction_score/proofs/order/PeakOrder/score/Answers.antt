use Rattle.std.proofs.Common.{◌+◌, List, ℕ, map, ap, ◌∙◌}
use Rattle.prediction_score.specs.declared.shares.Total.{Total}
use Rattle.prediction_score.specs.Scores.{score_of}
use Rattle.prediction_score.specs.Misfits.{misfit_of_totals}
use Rattle.prediction_score.proofs.ScoreSums.{score-shares}
use Rattle.prediction_score.proofs.order.PeakOrder.score.Goals as goal

pub returns : goal.returns
unfolding score_of
returns c =
    let column = c.intensity.result.now in
    ap (λ n. c.in_ok-shares.shares.unmatched + n) (c.misfit-misfit.ensures.misfit
    ∙ ap (λ (l : List Total). misfit_of_totals column l c.in_ok-shares.shares.matched) c.deref.ensures.value)
    ∙ score-shares c.args.self.now column _ c.in_ok-shares.shares c.in_ok-shares.ensures
    (c.intensity.ensures.intensity ∙ ap (λ (l : List (ℕ × ℕ)). map (λ (p : ℕ × ℕ). p.1) l) c.peaks.ensures)
