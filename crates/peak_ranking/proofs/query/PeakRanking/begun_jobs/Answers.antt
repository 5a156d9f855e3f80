use Rattle.std.proofs.Common.{◌≡◌, ℕ, ◌≤◌, List, map, sym, ap, ◌∙◌, subst}
use Rattle.ranking.specs.Rankings.{RankTask}
use Rattle.peak_ranking.specs.RankQueries.{RankQuery}
use Rattle.peak_ranking.specs.RankedJobs.{task_at}
use Rattle.peak_ranking.proofs.JobsBegun.{begun-more, progress_of}
use Rattle.peak_ranking.proofs.query.PeakRanking.begun_jobs.Goals as goal

pub loop-place-preserved : goal.loop-place-preserved
loop-place-preserved c =
    let query : RankQuery = c.args.self.now in
    let inside = c.self.inside in
    let place = c.loop-place.place in
    let peaks : c.args.order.now ≡ inside.peaks =
    c.requires ∙ sym (ap (λ (q : RankQuery). q.peaks) c.self.view_is) in
    let task_over : List (ℕ × ℕ) → RankTask = λ list. record {
      premises = inside.premises;
      peaks = list;
      place = place;
      coverage = inside.coverage;
    } in
    let from : query.first ≤ place = subst (λ (q : RankQuery). q.first ≤ place) c.self.view_is c.loop-place.auto.place in
    ap (map progress_of) c.in_ok-push.ensures.items
    ∙ begun-more query place (task_over c.args.order.now) c.loop-place.jobs.items c.in_ok-job.job from
    c.loop-place.invariant (ap task_over peaks ∙ ap (λ (q : RankQuery). task_at q place) c.self.view_is)
    c.in_ok-job.ensures.list c.in_ok-job.ensures.stop
