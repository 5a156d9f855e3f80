pub mod Draws
pub mod MadeFormulas
pub mod MadePeaks
