pub mod MadeStates
pub mod MadeCounts
pub mod PeakPairs
