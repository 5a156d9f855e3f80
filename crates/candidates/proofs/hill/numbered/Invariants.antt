use Rattle.std.proofs.Common.{◌≡◌, take}
use Rattle.candidates.specs.HillOrders.{numbered}
use Rattle.candidates.proofs.hill.numbered.Given as goal

abbrev pub invariant-loop-place : goal.invariant-loop-place
invariant-loop-place l = l.numbered.items ≡ numbered (take l.place l.items)
