use Rattle.formula_text.proofs.FormulaReadings.{reading-meaning, reading-only}
use Rattle.formula_text.proofs.ReadAnswers.{HasItems-answer}
use Rattle.formula_text.proofs.read.read_formula.Goals as goal

pub returns-clause-meaning : goal.returns-clause-meaning
returns-clause-meaning c = reading-meaning c.args.table.now c.args.text.now

pub returns-clause-only : goal.returns-clause-only
returns-clause-only c = reading-only c.args.table.now c.args.text.now

pub returns-clause-known : goal.returns-clause-known
returns-clause-known c = HasItems-answer c.args.table.now c.args.text.now c.read_of.result c.read_of.ensures
