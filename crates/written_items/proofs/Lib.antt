pub mod BadPlaceSteps
pub mod ByteKinds
pub mod LeadingSymbols
pub mod LeadingItemLaws
pub mod RowLaws
pub mod CountTails
