use Rattle.std.proofs.lemmas.Result.{err_from_is_err_and}
use Rattle.command_io.proofs.PartLaws.{part_end, part_end_stop}
use Rattle.cover_reports.specs.Steps.{certificate_step, judged_step}
use Rattle.cover_reports.proofs.check.Check.over.Goals as goal

pub returns-in_err-certificate : goal.returns-in_err-certificate
returns-in_err-certificate g c =
    let given = err_from_is_err_and c.from_residual.result c.from_residual.ensures.1 in
    rw (given.1, given.2) (part_end_stop (λ v. v) (λ e. e) _ (certificate_step c.args.table c.args.name.now)
    (judged_step c.args.table) _ _ _ c.in_err-certificate.ensures.part)

pub returns : goal.returns
returns g c =
    part_end (λ v. v) (λ e. e) _ (certificate_step c.args.table c.args.name.now) (judged_step c.args.table) _ _
    c.in_ok-certificate.certificate c.judged.result c.in_ok-certificate.ensures.part c.judged.ensures
