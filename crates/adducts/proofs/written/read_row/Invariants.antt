use Rattle.std.proofs.Common.{length, ◌-◌}
use Rattle.adducts.proofs.ReaderSteps.{RowSoFar}
use Rattle.adducts.proofs.written.read_row.Given as goal

abbrev pub invariant-loop-symbol : goal.invariant-loop-symbol
invariant-loop-symbol l = RowSoFar l.text l.start l.factor l.initial.parts.items l.parts.items l.at

abbrev pub decreases-loop-symbol : goal.decreases-loop-symbol
decreases-loop-symbol l = length l.text - l.at
