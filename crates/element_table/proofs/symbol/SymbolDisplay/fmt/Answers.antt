use Rattle.element_table.proofs.SymbolLetters.{IsUtf8-symbol}
use Rattle.element_table.proofs.symbol.SymbolDisplay.fmt.Goals as goal

pub unreachable-requires : goal.unreachable-requires
unreachable-requires g c = c.in-Err.ensures.cases.0 (IsUtf8-symbol _ (rw c.text.ensures.letters c.text.ensures.symbol))
