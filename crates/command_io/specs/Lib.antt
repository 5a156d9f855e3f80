pub mod Refusals
pub mod Notes
pub mod Asked
pub mod Steps
pub mod Parts
