use Rattle.std.proofs.Common.{◌≡◌, ℕ, List, ◌++◌, length, ap, sym, ◌∙◌, subst, arith}
use Rattle.peak_ranking.proofs.JobCounts.{length-ranked_jobs}
use Rattle.std.specs.Prelude.{Err}
use Rattle.std.specs.List.{enumerate_from, flat_map}
use Rattle.std.proofs.lemmas.Result.{err_from_is_err_and}
use Rattle.peak_ranking.specs.RankedJobs.{RankedJob, ranked_jobs}
use Rattle.report_text.specs.RankLines.{rank_head}
use Rattle.command_io.specs.Parts.{Puts}
use Rattle.command_io.proofs.Puts.{puts_next, puts_stop}
use Rattle.ranking_reports.specs.Reports.{job_lines, rank_report}
use Rattle.ranking_reports.proofs.RankLines.{whole-ranking}
use Rattle.ranking_reports.proofs.rank.write_ranking.Goals as goal

pub returns-in_err-put_text : goal.returns-in_err-put_text
returns-in_err-put_text g c =
    let query = c.args.ranking.now in
    let lines : List ℕ = flat_map (job_lines query) (enumerate_from query.first (ranked_jobs query)) in
    let given = err_from_is_err_and c.from_residual-in_err-put_text.result c.from_residual-in_err-put_text.ensures.1 in
    let head : c.deref.result.now ≡ rank_head query.jobs =
    c.deref.ensures.value ∙ c.in_ok-rank_head.ensures ∙ ap rank_head c.jobs.ensures in
    rw (given.1, given.2)
    (subst (λ (t : List ℕ). Puts t (g.O.Sink.written c.args.out.now) (g.O.Sink.written c.put_text.new.out)
    (g.O.Sink.faults c.args.out.now) (g.O.Sink.faults c.put_text.new.out) (Err c.in_err-put_text.field-0.0))
    (ap (λ t. t ++ lines) head ∙ whole-ranking query)
    (puts_stop c.deref.result.now lines _ _ _ _ _ c.in_err-put_text.ensures))

pub returns : goal.returns
returns g c =
    let query = c.args.ranking.now in
    let jobs : List RankedJob = c.args.ranked.now in
    let lines : List ℕ = flat_map (job_lines query) (enumerate_from query.first jobs) in
    let head : c.deref.result.now ≡ rank_head query.jobs =
    c.deref.ensures.value ∙ c.in_ok-rank_head.ensures ∙ ap rank_head c.jobs.ensures in
    subst (λ (t : List ℕ). Puts t (g.O.Sink.written c.args.out.now) (g.O.Sink.written c.write_jobs.new.out)
    (g.O.Sink.faults c.args.out.now) (g.O.Sink.faults c.write_jobs.new.out) c.write_jobs.result)
    (ap (λ t. t ++ lines) head
    ∙ ap (λ (js : List RankedJob). rank_head query.jobs ++ flat_map (job_lines query) (enumerate_from query.first js)) c.requires.ranked
    ∙ whole-ranking query)
    (puts_next c.deref.result.now lines _ _ _ _ _ _ _ c.in_ok-put_text.ensures c.write_jobs.ensures)

pub write_jobs-requires : goal.write_jobs-requires
write_jobs-requires g c =
    let query = c.args.ranking.now in
    let count : length c.args.ranked.now ≡ query.jobs =
    ap (λ (js : List RankedJob). length js) c.requires.ranked ∙ length-ranked_jobs query in
    let inside = c.requires.query.inside in
    omega (arith, count, inside)
