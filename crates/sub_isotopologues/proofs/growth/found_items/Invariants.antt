use Rattle.std.proofs.Common.{◌≡◌, ◌≤◌, ◌+◌, ◌-◌, length, map, sum}
use Rattle.sub_isotopologues.specs.SubIsotopologues.{sub_isotopologue_of}
use Rattle.sub_isotopologues.proofs.Reached.{AreFound}
use Rattle.sub_isotopologues.proofs.growth.found_items.Given as goal

-- the children of the items so far are found
abbrev pub invariant-loop-place : goal.invariant-loop-place
invariant-loop-place l = record {
  values : l.found.items ≡ map (sub_isotopologue_of l.weights) (map (λ i. i.counts) l.found.items);
  found : AreFound l.weights (sum l.mode.counts) l.wanted.above l.wanted.up_to (map (λ i. i.counts) l.items)
      (map (λ i. i.counts) l.found.items) l.place;
  fits : length l.found.items ≤ l.wanted.most;
  room : length l.counts.items ≡ length l.weights;
  within : l.place ≤ length l.items + length l.found.items;
}

abbrev pub decreases-loop-place : goal.decreases-loop-place
decreases-loop-place l = length l.items + l.wanted.most - l.place
