pub mod RisingKeys
pub mod OrderedPeaks
pub mod NearestPeaks
pub mod ReachedPeaks
pub mod MemberTotals
pub mod ScoreSums
