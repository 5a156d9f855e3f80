use Rattle.layered_envelope.proofs.CutoffLaws.{AreFrom}
use Rattle.layered_envelope.proofs.cutoffs.find_cutoffs.Given as goal

-- those of the elements from the place on are written, and the next one is at hand
abbrev pub invariant-loop-place : goal.invariant-loop-place
invariant-loop-place l = AreFrom l.threshold l.place l.modes l.cutoffs l.cutoff
