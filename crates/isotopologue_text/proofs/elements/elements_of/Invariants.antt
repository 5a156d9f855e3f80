use Rattle.std.proofs.Common.{◌≡◌, take, All}
use Rattle.multinomial_bounds.specs.Weight.{IsWeights}
use Rattle.multinomial_bounds.specs.Isotopologue.{Element}
use Rattle.isotopologue_text.specs.Isotopologues.{formula_elements}
use Rattle.isotopologue_text.proofs.elements.elements_of.Given as goal

-- the elements so far, with weights in range
abbrev pub invariant-loop-item : goal.invariant-loop-item
invariant-loop-item l =
    (l.elements.items ≡ formula_elements l.table (take l.item-index l.items)) × All (λ (e : Element). IsWeights e.weights) l.elements.items
