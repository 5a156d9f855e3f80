use Rattle.std.proofs.Common.{◌≡◌, ℕ, ◌+◌, ◌<◌, List, [], ◌∷◌, ◌++◌, length, take, drop, refl, ap, subst, arith}
use Rattle.std.specs.Prelude.{Ok, Err}
use Rattle.std.specs.List.{enumerate_from, flat_map}
use Rattle.std.proofs.lemmas.List.{take_all}
use Rattle.std.proofs.lemmas.List.FromFn.{length-enumerate_from}
use Rattle.std.proofs.lemmas.Result.{err_from_is_err_and}
use Rattle.peak_ranking.specs.RankedJobs.{RankedJob}
use Rattle.command_io.specs.Parts.{Puts}
use Rattle.command_io.proofs.PutLines.{line_not_put, line_put}
use Rattle.ranking_reports.specs.Reports.{job_lines}
use Rattle.ranking_reports.proofs.RankLines.{holds_at, more-enumerated, parts-enumerated, there}
use Rattle.ranking_reports.proofs.rank.write_jobs.Goals as goal

pub returns-in_err-write_job : goal.returns-in_err-write_job
returns-in_err-write_job g c =
    let query = c.args.ranking.now in
    let jobs : List RankedJob = c.args.ranked.now in
    let i = c.loop-job.job in
    let all : List (ℕ × RankedJob) = enumerate_from query.first jobs in
    let at = there jobs i (omega (arith, c.loop-job-test.true, c.job_count-job-end.ensures)) in
    let put = holds_at _ at.0 _ at.1 c.in_err-write_job.ensures in
    let given = err_from_is_err_and c.from_residual.result c.from_residual.ensures.1 in
    rw (given.1, given.2)
    (subst (λ (ps : List (ℕ × RankedJob)). Puts (flat_map (job_lines query) ps) (g.O.Sink.written c.args.out.now)
    (g.O.Sink.written c.write_job.new.out) (g.O.Sink.faults c.args.out.now) (g.O.Sink.faults c.write_job.new.out)
    (Err c.in_err-write_job.field-0.0))
    (parts-enumerated query.first jobs i at.0 at.1)
    (line_not_put (job_lines query) (take i all) (drop (i + 1) all) (query.first + i, at.0)
    (job_lines query (query.first + i, at.0)) _ _ _ _ _ _ _ refl c.loop-job.invariant put))

pub loop-job-preserved : goal.loop-job-preserved
loop-job-preserved g c =
    let query = c.args.ranking.now in
    let jobs : List RankedJob = c.args.ranked.now in
    let i = c.loop-job.job in
    let all : List (ℕ × RankedJob) = enumerate_from query.first jobs in
    let at = there jobs i (omega (arith, c.loop-job-test.true, c.job_count-job-end.ensures)) in
    let put = holds_at _ at.0 _ at.1 c.in_ok-write_job.ensures in
    subst (λ (ps : List (ℕ × RankedJob)). Puts (flat_map (job_lines query) ps) (g.O.Sink.written c.args.out.now)
    (g.O.Sink.written c.write_job.new.out) (g.O.Sink.faults c.args.out.now) (g.O.Sink.faults c.write_job.new.out)
    (Ok tt))
    (more-enumerated query.first jobs i at.0 at.1)
    (line_put (job_lines query) (take i all) (query.first + i, at.0)
    (job_lines query (query.first + i, at.0)) _ _ _ _ _ _ refl c.loop-job.invariant put)

pub returns : goal.returns
returns g c =
    let query = c.args.ranking.now in
    let jobs : List RankedJob = c.args.ranked.now in
    let i = c.loop-job.job in
    subst (λ (ps : List (ℕ × RankedJob)). Puts (flat_map (job_lines query) ps) (g.O.Sink.written c.args.out.now)
    (g.O.Sink.written c.loop-job.out) (g.O.Sink.faults c.args.out.now) (g.O.Sink.faults c.loop-job.out) (Ok tt))
    (take_all i (enumerate_from query.first jobs)
    (omega (arith, c.loop-job-test.false, c.job_count-job-end.ensures, length-enumerate_from query.first jobs)))
    c.loop-job.invariant
