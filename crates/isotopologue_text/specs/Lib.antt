pub mod Isotopologues
pub mod ReadCounts
pub mod Printed
pub mod Labels
pub mod Weighed
