use Rattle.std.proofs.Common.{◌≡◌, ◌∙◌, Some, ap, option_map, sym}
use Rattle.reader_answers.specs.Answers.{Gives}
use Rattle.element_table.specs.ReadRow.{decimals_of}
use Rattle.element_table.specs.TableFaults.{is_memory}
use Rattle.element_table.specs.TableText.{abundance_decimals, table_of_records}
use Rattle.element_table.proofs.Records.{table_of_records-rows}
use Rattle.element_table.proofs.References.{Gives-references}
use Rattle.element_table.proofs.reading.read_table.Goals as goal
use Rattle.element_table.proofs.reading.read_table.Goals.{After-read_rows}

-- the reading gives the table of the records
table : (c : After-read_rows) → Gives is_memory c.read_rows.result (table_of_records c.in_ok-records.records)
table c =
    let version : abundance_decimals c.in_ok-records.records ≡ Some (decimals_of c.in_ok-version.version) =
    sym c.version.ensures ∙ ap (option_map decimals_of) c.in_ok-version.ensures.ok_part in
    rw (table_of_records-rows _ _ version) c.read_rows.ensures.table

pub returns-clause-table : goal.returns-clause-table
returns-clause-table c = rw (← c.in_ok-records.ensures) (table (goal.at.returns-clause-table c).After-read_rows)

pub returns-clause-references : goal.returns-clause-references
returns-clause-references c =
    Gives-references _ c.in_ok-records.records
    (table (goal.at.returns-clause-references c).After-read_rows) c.read_rows.ensures.within
