pub mod Endings
pub mod RunClauses
pub mod CertificateRuns
