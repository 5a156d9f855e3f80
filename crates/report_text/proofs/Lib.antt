pub mod SentEntries
pub mod Places
