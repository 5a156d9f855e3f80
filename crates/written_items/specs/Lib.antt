pub mod Items
pub mod WrittenItems
pub mod LeadingItems
pub mod WrittenRows
pub mod RowReading
pub use Rattle.reader_answers.specs.BadPlaces
pub use Rattle.fixed_decimal.specs.DecimalTexts
pub use Rattle.element_table.specs.SymbolText
