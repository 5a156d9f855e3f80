use Rattle.std.proofs.Common.{◌≡◌, length, map}
use Rattle.sub_isotopologues.proofs.KeptLists.{Bounds}
use Rattle.sub_isotopologues.proofs.growth.unlisted_bounds.Given as goal

-- the items so far have their numbers
abbrev pub invariant-loop-place : goal.invariant-loop-place
invariant-loop-place l = record {
  count : length l.bounds.items ≡ l.place;
  bounds : Bounds l.weights l.mode.counts l.wanted.above (map (λ i. i.counts) l.items) l.bounds.items;
}
