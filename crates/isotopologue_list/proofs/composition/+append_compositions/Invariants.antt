use Rattle.std.proofs.Common.{◌≡◌, ◌+◌, ◌-◌, ◌++◌, length, take, flat_map}
use Rattle.isotopologue_list.proofs.CompositionsByFirst.{beginning_below}
use Rattle.isotopologue_list.proofs.composition.+append_compositions.Given as goal

-- the places that are left
abbrev pub decreases-append_compositions : goal.decreases-append_compositions
decreases-append_compositions l = length l.counts.now - l.place

-- the rows of all first counts so far are appended
abbrev pub invariant-loop-first : goal.invariant-loop-first
invariant-loop-first l = record {
  same_front : take l.place l.counts ≡ take l.place l.fn.counts;
  appended : l.rows.items
      ≡ l.fn.rows.items
      ++ flat_map (λ rest. take l.place l.fn.counts ++ rest) (beginning_below (length l.fn.counts - (l.place + 1)) l.atoms l.first);
}
