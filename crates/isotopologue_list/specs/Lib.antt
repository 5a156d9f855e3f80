pub use Rattle.multinomial_bounds.specs.Bounds
pub use Rattle.multinomial_bounds.specs.Isotopologue
pub use Rattle.multinomial_bounds.specs.Compositions
pub use Rattle.isotopologue_sets.specs.Covers
pub mod Listed
pub mod ListedParts
pub mod Nearest
