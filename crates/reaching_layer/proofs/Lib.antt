pub mod MemberRowLaws
pub mod RowOrder
pub mod GatheredMembers
pub mod OrderedRows
pub mod EarlierLayers
pub mod SearchSteps
pub mod FewestBounds
pub mod CoverNumbers
