use Rattle.std.proofs.Common.{◌≡◌, ◌≤◌, take}
use Rattle.candidates.specs.HillOrders.{with_counts}
use Rattle.candidates.proofs.hill.write_counts.Given as goal

abbrev pub invariant-loop-item : goal.invariant-loop-item
invariant-loop-item l = record {
  few : l.written ≤ l.item-index;
  entries : take l.written l.room ≡ with_counts l.counts (take l.item-index l.order);
}
