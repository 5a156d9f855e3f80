pub mod PassedPieces
pub mod PutParts
pub mod ReadBytes
pub mod StoredFiles
