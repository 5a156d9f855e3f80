use Rattle.std.proofs.Common.{refl}
use Rattle.std.proofs.lemmas.Result.{err_from_is_err_and}
use Rattle.cover_reports.specs.Answers.{envelope_names, certified_query}
use Rattle.cover_reports.specs.Reports.{certificate_report}
use Rattle.isoform.specs.Answer.{Certified}
use Rattle.isoform.proofs.Endings.{unread_serves, written_serves}
use Rattle.isoform.proofs.run.serve_certified.Goals as goal

pub returns-in_err-certified : goal.returns-in_err-certified
returns-in_err-certified g c =
    let o = c.args.options.now in
    let given = err_from_is_err_and c.from_residual.result c.from_residual.ensures.1 in
    rw (given.1, given.2)
    (unread_serves Certified (λ x. x) (envelope_names o) (certified_query o) _ _ _ _ _ c.in_err-certified.ensures)

pub returns : goal.returns
returns g c =
    let o = c.args.options.now in
    let query = c.in_ok-certified.certified in
    written_serves Certified (λ x. x) (envelope_names o) (certified_query o) _ _ query (certificate_report query) _ _ _ _ _ c.in_ok-certified.ensures
    (c.write.ensures.holds, c.write.ensures.passes) refl c.write.ensures.puts
