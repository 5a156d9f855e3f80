use Rattle.std.proofs.Common.{All}
use Rattle.sub_isotopologues.specs.Children.{children_first, IsBoundUpTo}
use Rattle.sub_isotopologues.proofs.children.greatest_up_to.Given as goal

-- the number bounds the children that the isotopes so far gain an atom for
abbrev pub invariant-loop-gain : goal.invariant-loop-gain
invariant-loop-gain l =
    All (λ y. IsBoundUpTo l.node.weights.now l.up_to l.greatest y)
    (children_first l.node.mode.now l.node.counts.now l.gain)
