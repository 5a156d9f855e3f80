use Rattle.std.proofs.lemmas.Result.{err_from_is_err_and}
use Rattle.command_io.proofs.PartLaws.{part_end, part_end_stop}
use Rattle.cover_reports.specs.Answers.{envelope_query, short_enough}
use Rattle.cover_reports.proofs.certified.CertifiedCover.read.Goals as goal

pub returns-in_err-envelope : goal.returns-in_err-envelope
returns-in_err-envelope g c =
    let given = err_from_is_err_and c.from_residual.result c.from_residual.ensures.1 in
    rw (given.1, given.2) (part_end_stop (λ v. v) (λ e. e) _ (envelope_query c.args.options.now) short_enough _ _ _
    c.in_err-envelope.ensures)

pub returns : goal.returns
returns g c =
    part_end (λ v. v) (λ e. e) _ (envelope_query c.args.options.now) short_enough _ _ c.in_ok-envelope.envelope
    c.of.result c.in_ok-envelope.ensures c.of.ensures
