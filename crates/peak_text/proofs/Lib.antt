pub mod PeakRecords
pub mod PeakColumns
