use Rattle.std.proofs.Common.{◌≤◌, SomeIff, take}
use Rattle.multinomial_bounds.specs.Compositions.{isotopologue_count}
use Rattle.isotopologue_list.proofs.count.count_up_to.Given as goal

-- how many there are for the elements so far
abbrev pub invariant-loop-element : goal.invariant-loop-element
invariant-loop-element l = record {
  some : 1 ≤ isotopologue_count (take l.element-index l.elements);
  total : SomeIff l.total (isotopologue_count (take l.element-index l.elements) ≤ l.most)
      (isotopologue_count (take l.element-index l.elements));
}
