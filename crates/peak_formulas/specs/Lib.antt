pub mod PeakClaims
