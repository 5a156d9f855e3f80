pub mod LineMembers
pub mod CertificateTruth
pub mod JudgementSteps
pub mod CoverAccepted
