use Rattle.std.proofs.Common.{◌≡◌, ◌≤◌, sum, take}
use Rattle.isotopologue_list.proofs.ParentLemmas.{above_first}
use Rattle.isotopologue_list.proofs.enclosures.atoms_above.Given as goal

-- the atoms above at the places so far, which are at most all atoms there
abbrev pub invariant-loop-place : goal.invariant-loop-place
invariant-loop-place l = record {
  value : l.above ≡ above_first l.fewer l.more l.place;
  small : l.above ≤ sum (take l.place l.more);
}
