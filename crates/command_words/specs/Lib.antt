pub use Rattle.reader_answers.specs.Answers
pub use Rattle.fixed_decimal.specs.Decimal
pub mod Options
pub mod Uses
pub mod Requests
pub mod WordReading
pub mod WordsFaults
pub mod ClapCommands
