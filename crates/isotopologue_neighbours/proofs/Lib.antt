pub mod MoveLemmas
pub mod OutsideMembers
pub mod ClosedBounds
