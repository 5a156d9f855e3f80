use Rattle.std.proofs.Common.{◌≡◌, length}
use Rattle.multinomial_bounds.specs.Isotopologue.{all_atoms}
use Rattle.isotopologue_sets.specs.Layers.{AreElements}
use Rattle.reaching_layer.proofs.tests.twenty_pairs.Given as goal

-- as many elements as have been added, of one atom each
abbrev pub invariant-loop-count : goal.invariant-loop-count
invariant-loop-count l = record {
  elements : AreElements l.elements.items;
  many : length l.elements.items ≡ l.count;
  atoms : all_atoms l.elements.items ≡ l.count;
}
