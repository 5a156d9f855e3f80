pub mod SumLemmas
pub mod PlaceLemmas
pub mod WeightLemmas
pub mod BoundLemmas
pub mod ModeLemmas
pub mod PathLemmas
pub mod LikeliestLemmas
pub mod EnclosureLemmas
pub mod WidthLemmas
pub mod CompositionLemmas
pub mod IsotopologueList
pub mod LexicographicOrder
pub mod SumOfWeights
mod ExactLemmas
