pub mod Weight
pub mod Bounds
pub mod Mode
pub mod Path
pub mod Isotopologue
pub mod Compositions
