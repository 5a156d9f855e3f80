pub mod MetRules
pub mod OneReading
pub mod OneVerdict
pub mod ProfileLines
pub mod ReadLines
pub mod TripleWords
pub mod UnsaturationSums
