use Rattle.std.proofs.Common.{[], ◌∷◌}
use Rattle.std.proofs.lemmas.Result.{err_from_is_err_and}
use Rattle.command_io.specs.Steps.{table_step}
use Rattle.command_io.proofs.PartLaws.{part_end, part_end_stop}
use Rattle.ranking_reports.specs.Answers.{generation_over}
use Rattle.ranking_reports.proofs.generation.Generation.read.Goals as goal

pub returns-in_err-table : goal.returns-in_err-table
returns-in_err-table g c =
    let o = c.args.options.now in
    let given = err_from_is_err_and c.from_residual.result c.from_residual.ensures.1 in
    rw (given.1, given.2) (part_end_stop (λ t. t) (λ g. g) (o.table ∷ []) (table_step o.table)
    (generation_over o.number) _ _ _ c.in_err-table.ensures)

pub returns : goal.returns
returns g c =
    let o = c.args.options.now in
    part_end (λ t. t) (λ g. g) (o.table ∷ []) (table_step o.table) (generation_over o.number) _ _
    c.in_ok-table.table c.over.result c.in_ok-table.ensures c.over.ensures
