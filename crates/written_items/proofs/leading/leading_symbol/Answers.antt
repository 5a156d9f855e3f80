use Rattle.std.proofs.Common.{◌≡◌, rules}
use Rattle.written_items.specs.LeadingItems.{leading_symbol}
use Rattle.written_items.proofs.LeadingSymbols.{longest-leading_symbol, none-leading_symbol}
use Rattle.written_items.proofs.leading.leading_symbol.Goals as goal
use Rattle.written_items.proofs.leading.leading_symbol.Goals.{After-of}

read : (c : After-of) → c.of.result ≡ leading_symbol c.args.text.now
read c = search rules

pub returns-clause-symbol : goal.returns-clause-symbol
returns-clause-symbol c = read c

pub returns-clause-longest : goal.returns-clause-longest
returns-clause-longest c = longest-leading_symbol c.args.text.now c.of.result (read c)

pub returns-clause-none : goal.returns-clause-none
returns-clause-none c = none-leading_symbol c.args.text.now c.of.result (read c)
