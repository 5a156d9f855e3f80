use Rattle.csv_records.specs.FileRecords.{file_records}
use Rattle.csv_records.proofs.Fields.{trimmed-rows}
use Rattle.csv_records.proofs.Records.read.Goals as goal

pub returns : goal.returns
unfolding file_records
returns c = trimmed-rows _ _ c.in_ok-rows_of.ensures
