use Rattle.std.proofs.Common.{◌≡◌, sym, ap, ◌∙◌, subst}
use Rattle.std.specs.Prelude.{Ok, Err, MatchBool, ⊤}
use Rattle.ranking.specs.Rankings.{is_memory}
use Rattle.peak_ranking.specs.RankClaims.{AreRankedParts}
use Rattle.peak_ranking.specs.RankQueries.{RankQuery}
use Rattle.peak_ranking.specs.RankedJobs.{begun_jobs, played}
use Rattle.peak_ranking.proofs.PlayedJobs.{few-after, parts-after, played-ok, played-stop}
use Rattle.peak_ranking.proofs.query.PeakRanking.play.Goals as goal

pub of-requires-in-Ok : goal.of-requires-in-Ok
of-requires-in-Ok c =
    few-after _ _ _ c.self.invariant.0 c.self.invariant.1
    (c.in_ok-board.ensures.jobs ∙ c.in_ok-jobs.ensures ∙ ap begun_jobs (sym c.self.view_is)) c.in-Ok.ensures.ends.1

pub returns-in-Ok-clause-played : goal.returns-in-Ok-clause-played
returns-in-Ok-clause-played c =
    subst (λ (q : RankQuery). played q ≡ Ok c.of-in-Ok.result) c.self.view_is
    (played-ok _ _ _ (c.in_ok-board.ensures.jobs ∙ c.in_ok-jobs.ensures ∙ ap begun_jobs (sym c.self.view_is))
    c.in-Ok.ensures.ends.0 (c.of-in-Ok.ensures ∙ c.in-Ok.ensures.ends.1))

pub returns-in-Ok-clause-parts : goal.returns-in-Ok-clause-parts
returns-in-Ok-clause-parts c =
    subst AreRankedParts c.self.view_is
    (parts-after _ _ c.self.invariant.0
    (c.in_ok-board.ensures.jobs ∙ c.in_ok-jobs.ensures ∙ ap begun_jobs (sym c.self.view_is)) c.in-Ok.ensures.ends.0)

pub returns-in-Err-Job-clause-played : goal.returns-in-Err-Job-clause-played
returns-in-Err-Job-clause-played c =
    let met = rw c.in-Err-Job.field-0-is at c.in-Err-Job.ensures.ends in
    subst (λ (q : RankQuery). MatchBool (is_memory c.in-Err-Job.fault) ⊤ (played q ≡ Err c.in-Err-Job.fault))
    c.self.view_is
    (played-stop _ _ _ (is_memory c.in-Err-Job.fault)
    (c.in_ok-board.ensures.jobs ∙ c.in_ok-jobs.ensures ∙ ap begun_jobs (sym c.self.view_is)) met.1)
