pub use Rattle.sorted_lists.specs.SortedLists
pub use Rattle.multinomial_bounds.specs.Weight
pub use Rattle.multinomial_bounds.specs.Bounds
pub use Rattle.multinomial_bounds.specs.Isotopologue
pub use Rattle.multinomial_bounds.specs.Compositions
pub mod Layers
pub mod Coverage
pub mod Covers
