pub mod AllRecords
pub mod Fields
pub mod ReadErrors
pub mod Headers
pub mod TrimmedFields
