use Rattle.std.proofs.Common.{◌≡◌, List, refl, subst}
use Rattle.std.specs.Prelude.{option_and_then, Result, Ok, Err}
use Rattle.std.proofs.lemmas.Result.{err_from_is_err_and}
use Rattle.peak_ranking.specs.RankQueries.{RankQuery}
use Rattle.peak_ranking.specs.RankedJobs.{RankedJob, met_fault, ranked_jobs}
use Rattle.command_io.specs.Refusals.{GivesInput}
use Rattle.command_io.specs.declared.input_fault.InputFault.{InputFault}
use Rattle.command_io.specs.declared.refusal.Refusal.{Refusal}
use Rattle.command_io.specs.declared.refusal.Refusal.TheVariants.{Memory}
use Rattle.command_io.proofs.PartLaws.{part_end, part_end_stop}
use Rattle.ranking_reports.specs.Claims.{RanksTrue}
use Rattle.ranking_reports.specs.Answers.{generate_names, generate_query, generate_reading}
use Rattle.ranking_reports.specs.Queries.{GenerateQuery}
use Rattle.ranking_reports.specs.Reports.{generate_report}
use Rattle.ranking_reports.specs.Steps.{limit_of, unless_stopped}
use Rattle.ranking_reports.proofs.RankLines.{stopped_too, unstopped}
use Rattle.isoform.specs.Answer.{Generates}
use Rattle.isoform.proofs.Endings.{unread_serves, written_serves}
use Rattle.isoform.proofs.run.serve_generate.Goals as goal

-- what is asked for, unless its turns meet a stop
abbrev stopping : GenerateQuery → Result GenerateQuery InputFault
stopping q = unless_stopped q.ranking q

pub returns-in_err-generation : goal.returns-in_err-generation
returns-in_err-generation g c =
    let o = c.args.options.now in
    let given = err_from_is_err_and c.from_residual.result c.from_residual.ensures.1 in
    rw (given.1, given.2)
    (unread_serves Generates (λ (q : GenerateQuery). q) (generate_names o) (generate_query o) _ _ _ _ _
    (part_end_stop (λ q. q) (λ q. q) (generate_names o) (generate_reading o) stopping _ _ _ c.in_err-generation.ensures))

pub returns-in_err-order : goal.returns-in_err-order
returns-in_err-order g c =
    let o = c.args.options.now in
    let given = err_from_is_err_and c.from_residual-in_err-order.result c.from_residual-in_err-order.ensures.1 in
    rw (given.1, given.2)
    (unread_serves Generates (λ (q : GenerateQuery). q) (generate_names o) (generate_query o) _ _ _ _ Memory
    (part_end (λ q. q) (λ q. q) (generate_names o) (generate_reading o) stopping _ _ c.in_ok-generation.generation (Err Memory)
    c.in_ok-generation.ensures tt))

pub returns-in_err-ranked : goal.returns-in_err-ranked
returns-in_err-ranked g c =
    let o = c.args.options.now in
    let query = c.in_ok-generation.generation in
    let refusal : Refusal = c.in_err-ranked.field-0.0 in
    let given = err_from_is_err_and c.from_residual-in_err-ranked.result c.from_residual-in_err-ranked.ensures.1 in
    let met : GivesInput {X = List RankedJob} (λ z. z) (unless_stopped query.ranking (ranked_jobs query.ranking)) (Err refusal) =
    subst (λ (r : RankQuery). GivesInput {X = List RankedJob} (λ z. z) (unless_stopped r (ranked_jobs r)) (Err refusal))
    c.ranking-ranking.ensures c.in_err-ranked.ensures.ranked in
    rw (given.1, given.2)
    (unread_serves Generates (λ (q : GenerateQuery). q) (generate_names o) (generate_query o) _ _ _ _ _
    (part_end (λ q. q) (λ q. q) (generate_names o) (generate_reading o) stopping _ _ query _ c.in_ok-generation.ensures
    (stopped_too query.ranking (ranked_jobs query.ranking) query refusal met)))

-- what comes of the turns, over the ranking of the query
ranked_of : (query : GenerateQuery) (ranking : RankQuery) (ranked : List RankedJob) → ranking ≡ query.ranking →
    unless_stopped ranking (ranked_jobs ranking) ≡ Ok ranked →
    (ranked ≡ ranked_jobs query.ranking) × (stopping query ≡ Ok query)
ranked_of query ranking ranked same is =
    unstopped (option_and_then limit_of (met_fault query.ranking)) (ranked_jobs query.ranking) ranked query
    (subst (λ (r : RankQuery). unless_stopped r (ranked_jobs r) ≡ Ok ranked) same is)

pub returns : goal.returns
returns g c =
    let o = c.args.options.now in
    let query = c.in_ok-generation.generation in
    let unmet = ranked_of query c.ranking-ranking.result.now c.in_ok-ranked.ranked c.ranking-ranking.ensures
    c.in_ok-ranked.ensures.ranked in
    written_serves Generates (λ (q : GenerateQuery). q) (generate_names o) (generate_query o) _ _ query
    (generate_report query) _ _ _ _ _
    (part_end (λ q. q) (λ q. q) (generate_names o) (generate_reading o) stopping _ _ query (Ok query)
    c.in_ok-generation.ensures unmet.1)
    (subst RanksTrue c.ranking-ranking.ensures (c.in_ok-ranked.ensures.holds refl)) refl c.write.ensures

pub write-requires : goal.write-requires
write-requires g c =
    let query = c.in_ok-generation.generation in
    (ranked_of query c.ranking-ranking.result.now c.in_ok-ranked.ranked c.ranking-ranking.ensures
    c.in_ok-ranked.ensures.ranked).0
