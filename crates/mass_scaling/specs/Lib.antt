pub mod Limits
pub mod Tolerances
pub mod Windows
pub mod Masses
pub mod Scales
pub mod Ranges
pub mod Ratios
