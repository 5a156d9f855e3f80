use Rattle.std.proofs.Common.{◌≡◌, ◌*◌, ◌≤◌, get_or, arith, ap, sym, subst, ◌∙◌}
use Rattle.std.specs.Prelude.{sum_by}
use Rattle.std.specs.Int.{abs_diff}
use Rattle.std.proofs.lemmas.List.Sums.{sum_by_more_le, sum_by-take-le}
use Rattle.prediction_score.specs.declared.shares.Total.{Total}
use Rattle.prediction_score.specs.Misfits.{gap_of}
use Rattle.prediction_score.proofs.ScoreSums.{misfit-bound}
use Rattle.prediction_score.proofs.scores.misfit.Goals as goal

pub overflow_add-misfit : goal.overflow_add-misfit
overflow_add-misfit c =
    let column = c.args.intensity.now in
    let totals = c.args.totals.now in
    let i = c.loop-total.total-index in
    let d : Total = record { place = 0; lo = 0 } in
    let whole = c.total_intensity-whole.result in
    let gap : c.abs_diff-misfit.result ≡ gap_of column c.args.matched whole (get_or totals i d) =
    c.abs_diff-misfit.ensures ∙ ap (abs_diff (get_or totals i d).lo) c.observed_share-observed.ensures.share in
    let bound : sum_by (gap_of column c.args.matched whole) totals ≤ 2 * c.args.matched =
    subst (λ w. sum_by (gap_of column c.args.matched w) totals ≤ 2 * c.args.matched)
    (sym c.total_intensity-whole.ensures) (misfit-bound column c.args.matched totals c.requires.matched) in
    let more = sum_by_more_le (gap_of column c.args.matched whole) totals i d c.loop-total-test.true in
    omega (arith, c.loop-total.invariant, c.requires.in_range)

pub returns-clause-in_range : goal.returns-clause-in_range
returns-clause-in_range c =
    let column = c.args.intensity.now in
    let totals = c.args.totals.now in
    let whole = c.total_intensity-whole.result in
    let bound : sum_by (gap_of column c.args.matched whole) totals ≤ 2 * c.args.matched =
    subst (λ w. sum_by (gap_of column c.args.matched w) totals ≤ 2 * c.args.matched)
    (sym c.total_intensity-whole.ensures) (misfit-bound column c.args.matched totals c.requires.matched) in
    let part = sum_by-take-le (gap_of column c.args.matched whole) totals c.loop-total.total-index in
    omega (arith, c.loop-total.invariant, c.requires.in_range)
