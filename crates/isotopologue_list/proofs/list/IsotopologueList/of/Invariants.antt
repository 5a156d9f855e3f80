use Rattle.std.proofs.Common.{◌≡◌, All, map, take}
use Rattle.multinomial_bounds.specs.Weight.{IsWeights}
use Rattle.isotopologue_list.proofs.ListingLemmas.{bounded_counts_of}
use Rattle.isotopologue_list.proofs.list.IsotopologueList.of.Given as goal

-- the elements so far are listed
abbrev pub invariant-loop-element : goal.invariant-loop-element
invariant-loop-element l = record {
  listed : l.lists.items ≡ map bounded_counts_of (take l.element-index l.elements);
  in_range : All (λ e. IsWeights e.weights) (take l.element-index l.elements);
}
