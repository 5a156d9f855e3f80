use Rattle.std.proofs.Common.{take}
use Rattle.prediction_score.specs.Columns.{AreReaches}
use Rattle.prediction_score.proofs.columns.reaches_of.Given as goal

abbrev pub invariant-loop-entry : goal.invariant-loop-entry
invariant-loop-entry l = AreReaches (take l.entry-index l.entries) l.column l.divisor l.tolerance l.reaches.items
