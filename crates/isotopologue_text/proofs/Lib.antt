pub mod Found
pub mod CountsLemmas
pub mod Weights
pub mod ElementLimits
pub mod Splits
pub mod IsotopeTexts
pub mod ApartIsotopes
pub mod ReadIsotopologues
mod PrintedLabels
