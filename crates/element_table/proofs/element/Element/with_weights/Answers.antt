use Rattle.element_table.proofs.TracedElements.{IsElement-traced}
use Rattle.element_table.proofs.element.Element.with_weights.Goals as goal

pub invariant_of-result : goal.invariant_of-result
invariant_of-result c = rw c.in_ok-isotopes.ensures (IsElement-traced _ _ c.requires c.self.invariant)
