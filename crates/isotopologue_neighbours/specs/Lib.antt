pub use Rattle.isotopologue_sets.specs.Layers
pub use Rattle.isotopologue_sets.specs.Coverage
pub use Rattle.isotopologue_sets.specs.Covers
pub mod Moves
pub mod Closed
