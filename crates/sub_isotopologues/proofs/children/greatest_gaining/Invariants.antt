use Rattle.std.proofs.Common.{All}
use Rattle.sub_isotopologues.specs.Children.{children_gaining, IsBoundUpTo}
use Rattle.sub_isotopologues.proofs.children.greatest_gaining.Given as goal

-- the number bounds the children by the isotopes so far
abbrev pub invariant-loop-lose : goal.invariant-loop-lose
invariant-loop-lose l =
    All (λ y. IsBoundUpTo l.node.weights.now l.up_to l.greatest y)
    (children_gaining l.node.mode.now l.node.counts.now l.gain l.lose)
