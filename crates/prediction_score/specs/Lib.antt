pub use Rattle.mass_scaling.specs.Tolerances
pub use Rattle.mass_scaling.specs.Limits
pub use Rattle.peak_text.specs.PeakLists
pub mod Matches
pub mod Scores
pub mod PeakOrders
pub mod Misfits
pub mod Columns
