pub mod CoverQueries
pub mod CertifiedCovers
pub mod PrintedMasses
pub mod CheckedCertificates
