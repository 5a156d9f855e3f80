use Rattle.std.proofs.Common.{◌≡◌}
use Rattle.isotopologue_list.proofs.NearestLemmas.{moves_to_first}
use Rattle.isotopologue_list.proofs.enclosures.nearest_first.Given as goal

-- the moves to the counts at the places so far
abbrev pub invariant-loop-place : goal.invariant-loop-place
invariant-loop-place l = l.order.items ≡ moves_to_first l.mode l.place
