use Rattle.isotopologue_text.proofs.Weights.{weights-in-range}
use Rattle.isotopologue_text.proofs.elements.element_of.Goals as goal

pub from_weights-requires-clause-weights_in_range : goal.from_weights-requires-clause-weights_in_range
from_weights-requires-clause-weights_in_range c =
    rw c.in_ok-weights.ensures
    (weights-in-range c.args.isotopes.now c.requires.few_isotopes c.requires.isotopes c.requires.weighted)
