pub mod Jobs
pub mod Turns
pub mod Steps
pub mod Boards
