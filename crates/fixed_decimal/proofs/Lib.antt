pub mod ReadTexts
pub mod PartsOfTexts
pub mod OneReading
pub mod PrintedTexts
pub mod NumbersInRange
pub mod LeadingDigits
