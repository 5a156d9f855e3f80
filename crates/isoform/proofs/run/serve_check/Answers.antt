use Rattle.std.proofs.Common.{refl}
use Rattle.std.proofs.lemmas.Result.{err_from_is_err_and}
use Rattle.cover_reports.specs.Answers.{check_names, check_query}
use Rattle.cover_reports.specs.Reports.{accepted_report}
use Rattle.isoform.specs.Answer.{Checked}
use Rattle.isoform.proofs.Endings.{unread_serves, written_serves}
use Rattle.isoform.proofs.run.serve_check.Goals as goal

pub returns-in_err-check : goal.returns-in_err-check
returns-in_err-check g c =
    let o = c.args.options.now in
    let given = err_from_is_err_and c.from_residual.result c.from_residual.ensures.1 in
    rw (given.1, given.2)
    (unread_serves Checked (λ x. x) (check_names o) (check_query o) _ _ _ _ _ c.in_err-check.ensures)

pub returns : goal.returns
returns g c =
    let o = c.args.options.now in
    let query = c.in_ok-check.check in
    written_serves Checked (λ x. x) (check_names o) (check_query o) _ _ query (accepted_report query.certificate) _ _ _ _ _ c.in_ok-check.ensures
    c.write.ensures.holds refl c.write.ensures.puts
