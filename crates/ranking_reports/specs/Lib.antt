pub mod Queries
pub mod Steps
pub mod Reports
pub mod Answers
pub mod Claims
