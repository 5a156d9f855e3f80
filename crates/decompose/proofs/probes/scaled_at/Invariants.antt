use Rattle.std.proofs.Common.{◌≡◌, ◌-◌, ◌^◌, min}
use Rattle.decompose.proofs.ProbeSteps.{taken_at}
use Rattle.decompose.proofs.probes.scaled_at.Given as goal

abbrev pub invariant-loop-before : goal.invariant-loop-before
invariant-loop-before l = l.taken ≡ min (taken_at l.symbols l.levels l.before) (2 ^ 64 - 1)
