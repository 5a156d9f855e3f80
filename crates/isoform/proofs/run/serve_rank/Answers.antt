use Rattle.std.proofs.Common.{true, false, refl}
use Rattle.std.specs.Prelude.{option_and_then, Result, Ok, Err}
use Rattle.std.proofs.lemmas.Result.{err_from_is_err_and}
use Rattle.peak_ranking.specs.RankQueries.{RankQuery}
use Rattle.peak_ranking.specs.RankedJobs.{met_fault, ranked_jobs}
use Rattle.command_io.specs.declared.input_fault.InputFault.{InputFault}
use Rattle.command_io.specs.declared.refusal.Refusal.TheVariants.{Memory}
use Rattle.command_io.proofs.PartLaws.{part_end, part_end_stop}
use Rattle.ranking_reports.specs.Reports.{rank_json}
use Rattle.ranking_reports.specs.Answers.{rank_names, rank_query, rank_reading}
use Rattle.ranking_reports.specs.Reports.{rank_report}
use Rattle.ranking_reports.specs.Steps.{limit_of, unless_stopped}
use Rattle.ranking_reports.proofs.RankLines.{stopped_too, unstopped}
use Rattle.isoform.specs.Answer.{ranks_in}
use Rattle.isoform.proofs.Endings.{unread_serves, written_serves}
use Rattle.isoform.proofs.run.serve_rank.Goals as goal

-- what is asked for, unless its turns meet a stop
abbrev stopping : RankQuery → Result RankQuery InputFault
stopping q = unless_stopped q q

pub returns-in_err-ranking : goal.returns-in_err-ranking
returns-in_err-ranking g c =
    let o = c.args.options.now in
    let given = err_from_is_err_and c.from_residual.result c.from_residual.ensures.1 in
    rw (given.1, given.2)
    (unread_serves (ranks_in c.args.json) (λ (q : RankQuery). q) (rank_names o) (rank_query o) _ _ _ _ _
    (part_end_stop (λ q. q) (λ q. q) (rank_names o) (rank_reading o) stopping _ _ _ c.in_err-ranking.ensures))

pub returns-in_err-order : goal.returns-in_err-order
returns-in_err-order g c =
    let o = c.args.options.now in
    let given = err_from_is_err_and c.from_residual-in_err-order.result c.from_residual-in_err-order.ensures.1 in
    rw (given.1, given.2)
    (unread_serves (ranks_in c.args.json) (λ (q : RankQuery). q) (rank_names o) (rank_query o) _ _ _ _ Memory
    (part_end (λ q. q) (λ q. q) (rank_names o) (rank_reading o) stopping _ _ c.in_ok-ranking.ranking (Err Memory)
    c.in_ok-ranking.ensures tt))

pub returns-in_err-ranked : goal.returns-in_err-ranked
returns-in_err-ranked g c =
    let o = c.args.options.now in
    let query = c.in_ok-ranking.ranking in
    let given = err_from_is_err_and c.from_residual-in_err-ranked.result c.from_residual-in_err-ranked.ensures.1 in
    rw (given.1, given.2)
    (unread_serves (ranks_in c.args.json) (λ (q : RankQuery). q) (rank_names o) (rank_query o) _ _ _ _ _
    (part_end (λ q. q) (λ q. q) (rank_names o) (rank_reading o) stopping _ _ query _ c.in_ok-ranking.ensures
    (stopped_too query (ranked_jobs query) query _ c.in_err-ranked.ensures.ranked)))

pub returns : goal.returns
returns g c =
    let o = c.args.options.now in
    let query = c.in_ok-ranking.ranking in
    let unmet = unstopped (option_and_then limit_of (met_fault query)) (ranked_jobs query) c.in_ok-ranked.ranked query
    c.in_ok-ranked.ensures.ranked in
    rw c.if-json.false
    (written_serves (ranks_in false) (λ (q : RankQuery). q) (rank_names o) (rank_query o) _ _ query (rank_report query)
    _ _ _ _ _
    (part_end (λ q. q) (λ q. q) (rank_names o) (rank_reading o) stopping _ _ query (Ok query) c.in_ok-ranking.ensures unmet.1)
    (c.in_ok-ranked.ensures.holds refl) refl c.write_ranking.ensures)

pub returns-then-json : goal.returns-then-json
returns-then-json g c =
    let o = c.args.options.now in
    let query = c.in_ok-ranking.ranking in
    let unmet = unstopped (option_and_then limit_of (met_fault query)) (ranked_jobs query) c.in_ok-ranked.ranked query
    c.in_ok-ranked.ensures.ranked in
    rw c.if-json.true
    (written_serves (ranks_in true) (λ (q : RankQuery). q) (rank_names o) (rank_query o) _ _ query (rank_json query)
    _ _ _ _ _
    (part_end (λ q. q) (λ q. q) (rank_names o) (rank_reading o) stopping _ _ query (Ok query) c.in_ok-ranking.ensures unmet.1)
    (c.in_ok-ranked.ensures.holds refl) refl c.write_ranking_json.ensures)

pub write_ranking-requires-clause-ranked : goal.write_ranking-requires-clause-ranked
write_ranking-requires-clause-ranked g c =
    let query = c.in_ok-ranking.ranking in
    let unmet = unstopped (option_and_then limit_of (met_fault query)) (ranked_jobs query) c.in_ok-ranked.ranked query
    c.in_ok-ranked.ensures.ranked in
    unmet.0

pub write_ranking_json-requires-clause-ranked : goal.write_ranking_json-requires-clause-ranked
write_ranking_json-requires-clause-ranked g c =
    let query = c.in_ok-ranking.ranking in
    let unmet = unstopped (option_and_then limit_of (met_fault query)) (ranked_jobs query) c.in_ok-ranked.ranked query
    c.in_ok-ranked.ensures.ranked in
    unmet.0
