pub mod Grounds
pub mod PeakFormulas
pub mod Enumeration
pub mod StepBounds
pub mod Lines
pub mod KeptLists
pub mod HillOrders
pub mod Searches
pub mod Standings
pub mod Tokens
pub use Rattle.decompose.specs.CountLists
pub use Rattle.decompose.specs.Enumeration as CountEnumeration
pub use Rattle.adducts.specs.Ions
pub use Rattle.golden_rules.specs.Verdicts
pub use Rattle.mass_scaling.specs.Tolerances
pub use Rattle.formula_text.specs.Formulas
pub use Rattle.report_lines.specs.ReportLines
