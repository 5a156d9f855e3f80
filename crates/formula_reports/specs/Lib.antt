pub mod Queries
pub mod Inputs
pub mod Steps
pub mod PageFormulas
pub mod Reports
pub mod Answers
pub mod Claims
