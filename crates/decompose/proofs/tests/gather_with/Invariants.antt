use Rattle.std.proofs.Common.{◌≡◌, length}
use Rattle.decompose.specs.Enumeration.{left}
use Rattle.decompose.proofs.tests.gather_with.Given as goal

abbrev pub invariant-loop-lists : goal.invariant-loop-lists
invariant-loop-lists g l = record { out : length l.out ≡ l.symbols; masses : length l.decomps.masses ≡ l.symbols }

abbrev pub decreases-loop-lists : goal.decreases-loop-lists
decreases-loop-lists g l = length (left l.decomps)
