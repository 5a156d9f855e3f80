pub mod RankLines
pub mod RankHolds
pub mod JsonEntries
pub mod MadeElements
pub mod GeneratedReports
