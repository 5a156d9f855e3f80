use Rattle.std.proofs.Common.{[], ◌∷◌}
use Rattle.std.proofs.lemmas.Result.{err_from_is_err_and}
use Rattle.outside_ports.specs.Files.{Files}
use Rattle.element_table.specs.Elements.{TableEntries}
use Rattle.command_io.specs.Asked.{Asked, asks_none, ◌and_then◌}
use Rattle.command_io.specs.Steps.{table_step, tracer_names, tracer_step}
use Rattle.command_io.proofs.PartLaws.{part_end, part_end_stop, part_next, part_stop}
use Rattle.cover_reports.specs.Answers.{envelope_over}
use Rattle.cover_reports.specs.Queries.{CoverQuery}
use Rattle.cover_reports.specs.declared.envelope.EnvelopeOptions.{EnvelopeOptions}
use Rattle.cover_reports.proofs.envelope.Envelope.read.Goals as goal

-- what follows the table
abbrev behind_table : EnvelopeOptions → TableEntries → Files → Asked CoverQuery
behind_table options table files =
    tracer_step table options.tracer files and_then λ traced. asks_none (envelope_over options traced)

pub returns-in_err-table : goal.returns-in_err-table
returns-in_err-table g c =
    let o = c.args.options.now in
    let given = err_from_is_err_and c.from_residual.result c.from_residual.ensures.1 in
    rw (given.1, given.2) (part_stop (λ t. t) (λ e. e) (o.table ∷ []) (tracer_names o.tracer) (table_step o.table)
    (behind_table o) _ _ _ c.in_err-table.ensures)

pub returns-in_err-traced : goal.returns-in_err-traced
returns-in_err-traced g c =
    let o = c.args.options.now in
    let table = c.in_ok-table.table in
    let given = err_from_is_err_and c.from_residual-in_err-traced.result c.from_residual-in_err-traced.ensures.1 in
    rw (given.1, given.2) (part_next (λ t. t) (λ e. e) (o.table ∷ []) (tracer_names o.tracer) (table_step o.table)
    (behind_table o) _ _ _ table _ c.in_ok-table.ensures
    (part_end_stop (λ t. t) (λ e. e) (tracer_names o.tracer) (tracer_step table o.tracer) (envelope_over o) _ _ _
    c.in_err-traced.ensures))

pub returns : goal.returns
returns g c =
    let o = c.args.options.now in
    let table = c.in_ok-table.table in
    part_next (λ t. t) (λ e. e) (o.table ∷ []) (tracer_names o.tracer) (table_step o.table)
    (behind_table o) _ _ _ table _ c.in_ok-table.ensures
    (part_end (λ t. t) (λ e. e) (tracer_names o.tracer) (tracer_step table o.tracer) (envelope_over o) _ _
    c.in_ok-traced.traced c.over.result c.in_ok-traced.ensures c.over.ensures)
