use Rattle.std.proofs.Common.{[], ◌∷◌, ◌++◌}
use Rattle.std.proofs.lemmas.Result.{err_from_is_err_and}
use Rattle.outside_ports.specs.Files.{Files}
use Rattle.element_table.specs.Elements.{TableEntries}
use Rattle.command_io.specs.Asked.{Asked, ◌and_then◌}
use Rattle.command_io.specs.Steps.{table_step, tracer_names, tracer_step}
use Rattle.command_io.proofs.PartLaws.{part_next, part_stop}
use Rattle.cover_reports.specs.Answers.{check_over}
use Rattle.cover_reports.specs.Queries.{CheckQuery}
use Rattle.cover_reports.specs.declared.check.CheckOptions.{CheckOptions}
use Rattle.cover_reports.proofs.check.Check.read.Goals as goal

-- what follows the table, and what follows the tracer
abbrev behind_tracer : CheckOptions → TableEntries → Files → Asked CheckQuery
behind_tracer options traced files = check_over traced options.certificate files

abbrev behind_table : CheckOptions → TableEntries → Files → Asked CheckQuery
behind_table options table files =
    tracer_step table options.tracer files and_then λ traced. behind_tracer options traced files

pub returns-in_err-table : goal.returns-in_err-table
returns-in_err-table g c =
    let o = c.args.options.now in
    let given = err_from_is_err_and c.from_residual.result c.from_residual.ensures.1 in
    rw (given.1, given.2) (part_stop (λ t. t) (λ e. e) (o.table ∷ []) (tracer_names o.tracer ++ o.certificate ∷ [])
    (table_step o.table) (behind_table o) _ _ _ c.in_err-table.ensures)

pub returns-in_err-traced : goal.returns-in_err-traced
returns-in_err-traced g c =
    let o = c.args.options.now in
    let table = c.in_ok-table.table in
    let given = err_from_is_err_and c.from_residual-in_err-traced.result c.from_residual-in_err-traced.ensures.1 in
    rw (given.1, given.2) (part_next (λ t. t) (λ e. e) (o.table ∷ []) (tracer_names o.tracer ++ o.certificate ∷ [])
    (table_step o.table) (behind_table o) _ _ _ table _ c.in_ok-table.ensures
    (part_stop (λ t. t) (λ e. e) (tracer_names o.tracer) (o.certificate ∷ []) (tracer_step table o.tracer)
    (behind_tracer o) _ _ _ c.in_err-traced.ensures))

pub returns : goal.returns
returns g c =
    let o = c.args.options.now in
    let table = c.in_ok-table.table in
    part_next (λ t. t) (λ e. e) (o.table ∷ []) (tracer_names o.tracer ++ o.certificate ∷ []) (table_step o.table)
    (behind_table o) _ _ _ table _ c.in_ok-table.ensures
    (part_next (λ t. t) (λ e. e) (tracer_names o.tracer) (o.certificate ∷ []) (tracer_step table o.tracer)
    (behind_tracer o) _ _ _ c.in_ok-traced.traced c.over.result c.in_ok-traced.ensures c.over.ensures)
