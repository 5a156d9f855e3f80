pub use Rattle.fixed_decimal.specs.DecimalTexts
pub use Rattle.formula_text.specs.Masses
pub use Rattle.formula_text.specs.PrintedText
pub use Rattle.adducts.specs.Adducts
pub use Rattle.adducts.specs.Ions
pub use Rattle.cover_certificate.specs.FormulaCovers
pub mod ReportLines
pub mod Words
