pub mod IonRanges
pub mod CopiedMasses
pub mod RatioLemmas
pub mod ScaledMasses
pub mod ScaledWindows
