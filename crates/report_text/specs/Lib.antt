pub use Rattle.serde.specs.Event
pub use Rattle.serde_json.specs.Data
pub use Rattle.serde_json.specs.Written
pub use Rattle.report_lines.specs.ReportLines
pub use Rattle.ranking.specs.Places
pub mod Sent
pub mod RankLines
pub mod JsonReports
