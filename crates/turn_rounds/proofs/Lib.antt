pub mod ShareLaws
pub mod StopLaws
pub mod RoundLaws
