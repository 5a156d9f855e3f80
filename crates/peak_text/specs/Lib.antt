pub use Rattle.reader_answers.specs.Answers
pub use Rattle.reader_answers.specs.RecordRows
pub use Rattle.csv_records.specs.FileRecords
pub use Rattle.fixed_decimal.specs.Decimal
pub mod Limits
pub mod PeakLists
pub mod PeakFaults
pub mod PeakText
