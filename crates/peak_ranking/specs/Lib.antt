pub mod RankQueries
pub mod RankedJobs
pub mod RankClaims
pub mod Tallies
