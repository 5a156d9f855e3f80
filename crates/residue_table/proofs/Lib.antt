pub mod Cycles
pub mod CarriedRows
pub mod ProbedRows
pub mod LevelRows
pub mod RunMinima
pub mod RunSpans
