pub mod PageLists
pub mod CrowdedPeaks
pub mod PageLines
pub mod KeptFormulas
pub mod JsonEntries
