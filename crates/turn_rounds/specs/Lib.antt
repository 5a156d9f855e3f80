pub mod Rounds
pub mod Stops
pub mod Answers
