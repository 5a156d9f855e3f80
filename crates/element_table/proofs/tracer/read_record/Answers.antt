use Rattle.element_table.proofs.TracerRows.{tracer_row_of-count}
use Rattle.element_table.proofs.tracer.read_record.Goals as goal

pub returns-in-None-clause-row : goal.returns-in-None-clause-row
returns-in-None-clause-row c = tracer_row_of-count _ _ _ c.in-None.ensures
