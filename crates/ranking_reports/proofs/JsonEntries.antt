-- The entries of a report in JSON: jobs are appended one by one.
use Rattle.std.proofs.Common.{◌≡◌, ℕ, ◌+◌, List, map, take, sym, ap, ◌∙◌}
use Rattle.std.specs.Prelude.{Some, slice_get}
use Rattle.std.specs.List.{enumerate_from}
use Rattle.std.proofs.lemmas.List.{map_push}
use Rattle.peak_ranking.specs.RankQueries.{RankQuery}
use Rattle.peak_ranking.specs.RankedJobs.{RankedJob}
use Rattle.prediction_score.specs.Matches.{mz_at}
use Rattle.report_text.specs.JsonReports.{with_job}
use Rattle.report_text.specs.declared.report.Report.TheVariants.{Rank}
use Rattle.ranking_reports.specs.Reports.{job_in}
use Rattle.ranking_reports.proofs.RankLines.{more-enumerated}

-- the jobs so far and one more
pub job_added : (query : RankQuery) (jobs : List RankedJob) (i : ℕ) (job : RankedJob) → slice_get jobs i ≡ Some job →
    with_job (query.first + i + 1) (mz_at query.peaks (query.first + i)) job.finished job.found
    (Rank (map (job_in query) (take i (enumerate_from query.first jobs))))
    ≡ Rank (map (job_in query) (take (i + 1) (enumerate_from query.first jobs)))
job_added query jobs i job is =
    let so_far : List (ℕ × RankedJob) = take i (enumerate_from query.first jobs) in
    ap Rank (sym (map_push (job_in query) so_far (query.first + i, job))
    ∙ ap (map (job_in query)) (more-enumerated query.first jobs i job is))
