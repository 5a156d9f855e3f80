use Rattle.peak_ranking.specs.RankedJobs.{met_fault, ranked_jobs}
use Rattle.ranking_reports.proofs.RankHolds.{ranks-true}
use Rattle.ranking_reports.proofs.RankLines.{limits-layer, limits-many, limits-ok}
use Rattle.ranking_reports.proofs.rank.ranked_peaks.Goals as goal

pub returns-in-Ok-clause-ranked : goal.returns-in-Ok-clause-ranked
returns-in-Ok-clause-ranked c =
    let query = c.args.ranking.now in limits-ok (met_fault query) (ranked_jobs query) _ c.in-Ok.ensures.played

pub returns-in-Err-TooMany-clause-ranked : goal.returns-in-Err-TooMany-clause-ranked
returns-in-Err-TooMany-clause-ranked c =
    let query = c.args.ranking.now in
    limits-many (met_fault query) (ranked_jobs query) _
    (rw c.in-Err-TooMany.field-0-is at c.in-Err-TooMany.ensures.played)

pub returns-in-Err-Layer-clause-ranked : goal.returns-in-Err-Layer-clause-ranked
returns-in-Err-Layer-clause-ranked c =
    let query = c.args.ranking.now in
    limits-layer (met_fault query) (ranked_jobs query) _ _
    (rw c.in-Err-Layer.field-0-is at c.in-Err-Layer.ensures.played)

pub returns-in-Ok-clause-holds : goal.returns-in-Ok-clause-holds
returns-in-Ok-clause-holds c = λ ok. ranks-true c.args.ranking.now c.in-Ok.ensures.parts
