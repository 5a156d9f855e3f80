use Rattle.std.proofs.Common.{◌≡◌, ℕ, ◌+◌, ◌<◌, Bool, List, length, map, get_or, ap, ◌∙◌, arith}
use Rattle.std.specs.List.{enumerate_from}
use Rattle.std.proofs.lemmas.List.{get_or-map, take_all}
use Rattle.std.proofs.lemmas.List.FromFn.{length-enumerate_from}
use Rattle.prediction_score.specs.Matches.{mz_at}
use Rattle.ranking.specs.Places.{RankedEntry}
use Rattle.peak_ranking.specs.RankedJobs.{RankedJob}
use Rattle.report_text.specs.JsonReports.{with_job}
use Rattle.report_text.specs.declared.report.Report.{Report}
use Rattle.report_text.specs.declared.report.Report.TheVariants.{Rank}
use Rattle.ranking_reports.specs.Reports.{job_in}
use Rattle.ranking_reports.proofs.JsonEntries.{job_added}
use Rattle.ranking_reports.proofs.RankLines.{holds_at, there}
use Rattle.ranking_reports.proofs.rank.job_entries.Goals as goal

pub overflow_add-place : goal.overflow_add-place
overflow_add-place c =
    let same : length c.peaks.result.now ≡ length c.args.ranking.now.peaks =
    ap (λ (ps : List (ℕ × ℕ)). length ps) c.peaks.ensures.peaks in
    omega (
      arith,
      same,
      c.mz-mzs.ensures.peaks.few,
      c.first.ensures.first,
      c.requires,
      c.loop-job-test.true,
      c.job_count-job-end.ensures.count,
    )

pub loop-job-preserved : goal.loop-job-preserved
loop-job-preserved c =
    let query = c.args.ranking.now in
    let jobs : List RankedJob = c.args.ranked.now in
    let i = c.loop-job.job in
    let place : ℕ = c.first.result + i in
    let first : c.first.result ≡ query.first = c.first.ensures.first in
    let at = there jobs i (omega (arith, c.loop-job-test.true, c.job_count-job-end.ensures.count)) in
    let found : c.found-found.result.now ≡ at.0.found =
    holds_at _ at.0 (λ (job : RankedJob). c.found-found.result.now ≡ job.found) at.1 c.found-found.ensures.found in
    let done : c.is_done-done.result ≡ at.0.finished =
    holds_at _ at.0 (λ (job : RankedJob). c.is_done-done.result ≡ job.finished) at.1 c.is_done-done.ensures in
    let inside : place < length query.peaks =
    omega (arith, c.requires, first, c.loop-job-test.true, c.job_count-job-end.ensures.count) in
    let mz : get_or c.mz-mzs.result.now place 0 ≡ mz_at query.peaks place =
    ap (λ (xs : List ℕ). get_or xs place 0) (c.mz-mzs.ensures.mz
    ∙ ap (λ (ps : List (ℕ × ℕ)). map (λ (p : ℕ × ℕ). p.0) ps) c.peaks.ensures.peaks)
    ∙ get_or-map (λ (p : ℕ × ℕ). p.0) query.peaks place (0, 0) 0 inside in
    c.in_ok-add_job.ensures.added
    ∙ ap (λ (m : ℕ). with_job (place + 1) m c.is_done-done.result c.found-found.result.now c.loop-job.report) mz
    ∙ ap (λ (n : ℕ). with_job (n + i + 1) (mz_at query.peaks (n + i)) c.is_done-done.result c.found-found.result.now
    c.loop-job.report) first
    ∙ ap (λ (b : Bool). with_job (query.first + i + 1) (mz_at query.peaks (query.first + i)) b c.found-found.result.now
    c.loop-job.report) done
    ∙ ap (λ (fs : List RankedEntry). with_job (query.first + i + 1) (mz_at query.peaks (query.first + i)) at.0.finished fs
    c.loop-job.report) found
    ∙ ap (λ (r : Report). with_job (query.first + i + 1) (mz_at query.peaks (query.first + i)) at.0.finished at.0.found r)
    c.loop-job.invariant
    ∙ job_added query jobs i at.0 at.1

pub returns : goal.returns
returns c =
    let query = c.args.ranking.now in
    let jobs : List RankedJob = c.args.ranked.now in
    let i = c.loop-job.job in
    c.loop-job.invariant
    ∙ ap (λ (ps : List (ℕ × RankedJob)). Rank (map (job_in query) ps)) (take_all i (enumerate_from query.first jobs)
    (omega (arith, c.loop-job-test.false, c.job_count-job-end.ensures.count, length-enumerate_from query.first jobs)))
