pub mod MassTexts
pub mod JoinedWords
pub mod WordsOfLines
pub mod FormulaTexts
pub mod WrittenTexts
