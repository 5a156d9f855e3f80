use Rattle.element_table.proofs.RowRanges.{row_of-count}
use Rattle.element_table.proofs.reading.read_record.Goals as goal

pub returns-in-None-clause-row : goal.returns-in-None-clause-row
returns-in-None-clause-row c = row_of-count _ _ _ c.in-None.ensures
