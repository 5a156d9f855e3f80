use Rattle.std.proofs.lemmas.Result.{err_from_is_err_and}
use Rattle.command_io.specs.Asked.{asks_file}
use Rattle.command_io.proofs.PartLaws.{part_end, part_end_stop}
use Rattle.cover_reports.specs.Steps.{certificate_in}
use Rattle.cover_reports.proofs.check.certificate_of.Goals as goal

pub returns-in_err-bytes-clause-part : goal.returns-in_err-bytes-clause-part
returns-in_err-bytes-clause-part g c =
    let given = err_from_is_err_and c.from_residual.result c.from_residual.ensures.1 in
    rw (given.1, given.2) (part_end_stop (λ v. v.items) (λ r. r) _ (asks_file 268435456 c.args.name.now)
    (certificate_in c.args.table.now) _ _ _ c.in_err-bytes.ensures)

pub returns-clause-part : goal.returns-clause-part
returns-clause-part g c =
    part_end (λ v. v.items) (λ t. t) _ (asks_file 268435456 c.args.name.now) (certificate_in c.args.table.now) _ _
    c.in_ok-bytes.bytes c.certificate_in.result c.in_ok-bytes.ensures
    (rw c.deref.ensures.value at c.certificate_in.ensures.certificate)
