use Rattle.std.proofs.Common.{true, false, refl}
use Rattle.std.proofs.lemmas.Result.{err_from_is_err_and}
use Rattle.cover_reports.specs.Answers.{envelope_names, envelope_query}
use Rattle.cover_reports.specs.Reports.{cover_json}
use Rattle.cover_reports.specs.Reports.{cover_report}
use Rattle.isoform.specs.Answer.{cover_in}
use Rattle.isoform.proofs.Endings.{unread_serves, written_serves}
use Rattle.isoform.proofs.run.serve_envelope.Goals as goal

pub returns-in_err-envelope : goal.returns-in_err-envelope
returns-in_err-envelope g c =
    let o = c.args.options.now in
    let given = err_from_is_err_and c.from_residual.result c.from_residual.ensures.1 in
    rw (given.1, given.2)
    (unread_serves (cover_in c.args.json) (λ x. x) (envelope_names o) (envelope_query o) _ _ _ _ _ c.in_err-envelope.ensures)

pub returns : goal.returns
returns g c =
    let o = c.args.options.now in
    let query = c.in_ok-envelope.envelope in
    rw c.if-json.false
    (written_serves (cover_in false) (λ x. x) (envelope_names o) (envelope_query o) _ _ query
    (cover_report query) _ _ _ _ _ c.in_ok-envelope.ensures c.write.ensures.holds refl c.write.ensures.puts)

pub returns-then-json : goal.returns-then-json
returns-then-json g c =
    let o = c.args.options.now in
    let query = c.in_ok-envelope.envelope in
    rw c.if-json.true
    (written_serves (cover_in true) (λ x. x) (envelope_names o) (envelope_query o) _ _ query
    (cover_json query) _ _ _ _ _ c.in_ok-envelope.ensures c.write_json.ensures.holds refl c.write_json.ensures.puts)
