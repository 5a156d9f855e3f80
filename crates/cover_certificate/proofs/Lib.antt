pub mod PrintedMembers
pub mod ReadableCovers
pub mod CoverAnswers
pub mod WrittenCovers
