use Rattle.std.proofs.Common.{arith}
use Rattle.std.proofs.lemmas.Result.{err_from_is_err_and}
use Rattle.element_table.proofs.GatheredRecords.{Gives-fault, gather_from-step}
use Rattle.element_table.proofs.reading.read_rows.Goals as goal

pub returns-in_err-add-clause-table : goal.returns-in_err-add-clause-table
returns-in_err-add-clause-table c =
    let p = err_from_is_err_and c.from_residual-in_err-add.result c.from_residual-in_err-add.ensures.1 in
    rw (p.1, p.2)
    (Gives-fault _ c.loop-index.index _ c.args.records.now _ _
    (omega arith) c.loop-index.invariant c.in_ok-row.ensures.row
    _ _ c.in_err-add.ensures)

pub loop-index-preserved : goal.loop-index-preserved
loop-index-preserved c =
    gather_from-step _ c.loop-index.index _ c.args.records.now _ _ (omega arith) c.loop-index.invariant
    c.in_ok-row.ensures.row _ c.in_ok-add.ensures
