pub mod Answer
pub mod Claims
pub mod Outside
pub mod CertificateClaims
