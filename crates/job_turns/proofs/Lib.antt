pub mod ProgressLaws
pub mod BoardLaws
pub mod PlayLaws
