use Rattle.std.proofs.Common.{◌∙◌, refl, sym}
use Rattle.prediction_score.proofs.ReachedPeaks.{reach-none, reach-window, reach-empty}
use Rattle.prediction_score.proofs.columns.reach_of.Goals as goal

pub returns-in_default : goal.returns-in_default
returns-in_default c =
    reach-none c.args.column.now c.args.mz c.args.divisor c.args.tolerance
    (c.window_of.ensures.none.0 (rw c.in_default.is refl))

pub returns-then-count_between-eq0 : goal.returns-then-count_between-eq0
returns-then-count_between-eq0 c =
    reach-empty c.args.column.now c.args.mz c.args.divisor c.args.tolerance c.in-Some.window c.in-Some.ensures.exact
    (sym c.count_between.ensures ∙ c.if-count_between-eq0.true)

pub returns : goal.returns
returns c =
    reach-window c.args.column.now c.args.mz c.args.divisor c.args.tolerance c.in-Some.window c.in-Some.ensures.exact
