use Rattle.std.proofs.Common.{◌≡◌, ◌+◌, [], drop}
use Rattle.element_table.specs.ReadRow.{AreTracerRows}
use Rattle.reader_answers.specs.RecordRows.{rows_after}
use Rattle.element_table.specs.Tracers.{repeated_after, tracer_row_of}
use Rattle.element_table.proofs.tracer.read_rows.Given as goal

-- the rows read and those of the records that are left are the rows that all records give
abbrev pub invariant-loop-index : goal.invariant-loop-index
invariant-loop-index l = record {
  all : rows_after (tracer_row_of l.table) repeated_after (l.index + 1) l.rows.items (drop l.index l.records)
      ≡ rows_after (tracer_row_of l.table) repeated_after 2 [] (drop 1 l.records);
  within : AreTracerRows l.rows.items;
}
