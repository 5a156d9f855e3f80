pub mod Answers
pub mod BadPlaces
pub mod RecordRows
