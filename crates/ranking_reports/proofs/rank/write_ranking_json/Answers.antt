use Rattle.std.proofs.Common.{◌≡◌, ℕ, List, length, map, refl, ap, ◌∙◌, subst, arith}
use Rattle.std.specs.List.{enumerate_from}
use Rattle.std.proofs.lemmas.Result.{err_from_is_err_and}
use Rattle.peak_ranking.specs.RankQueries.{RankQuery}
use Rattle.peak_ranking.specs.RankedJobs.{RankedJob, ranked_jobs}
use Rattle.peak_ranking.proofs.JobCounts.{length-ranked_jobs}
use Rattle.report_text.specs.JsonReports.{json_text}
use Rattle.report_text.specs.declared.report.Report.TheVariants.{Rank}
use Rattle.command_io.specs.Parts.{Puts}
use Rattle.command_io.proofs.Puts.{puts_none}
use Rattle.ranking_reports.specs.Reports.{job_in, rank_json}
use Rattle.ranking_reports.proofs.rank.write_ranking_json.Goals as goal

-- the line of the entries of the jobs is their report
whole : (query : RankQuery) →
    json_text (Rank (map (job_in query) (enumerate_from query.first (ranked_jobs query)))) ≡ rank_json query
unfolding rank_json
whole query = refl

pub returns-in_err-report : goal.returns-in_err-report
returns-in_err-report g c =
    let given = err_from_is_err_and c.from_residual.result c.from_residual.ensures.1 in
    rw (given.1, given.2)
    (puts_none (rank_json c.args.ranking.now) (g.O.Sink.written c.args.out.now) (g.O.Sink.faults c.args.out.now))

pub returns-in_err-json_text : goal.returns-in_err-json_text
returns-in_err-json_text g c =
    let given = err_from_is_err_and c.from_residual-in_err-json_text.result c.from_residual-in_err-json_text.ensures.1 in
    rw (given.1, given.2)
    (puts_none (rank_json c.args.ranking.now) (g.O.Sink.written c.args.out.now) (g.O.Sink.faults c.args.out.now))

pub returns : goal.returns
returns g c =
    let query = c.args.ranking.now in
    let text : c.deref.result.now ≡ rank_json query =
    c.deref.ensures.value ∙ c.in_ok-json_text.ensures ∙ ap json_text c.in_ok-report.ensures
    ∙ ap (λ (jobs : List RankedJob). json_text (Rank (map (job_in query) (enumerate_from query.first jobs))))
    c.requires.ranked
    ∙ whole query in
    subst (λ (t : List ℕ). Puts t (g.O.Sink.written c.args.out.now) (g.O.Sink.written c.put_line.new.out)
    (g.O.Sink.faults c.args.out.now) (g.O.Sink.faults c.put_line.new.out) c.put_line.result) text c.put_line.ensures

pub job_entries-requires : goal.job_entries-requires
job_entries-requires g c =
    let query = c.args.ranking.now in
    let count : length c.args.ranked.now ≡ query.jobs =
    ap (λ (jobs : List RankedJob). length jobs) c.requires.ranked ∙ length-ranked_jobs query in
    let inside = c.requires.query.inside in
    omega (arith, count, inside)
