-- The number rises with the children that each isotope gains an atom for.
use Rattle.std.proofs.Common.{arith}
use Rattle.sub_isotopologues.proofs.ChildBounds.{first_none, first_more}
use Rattle.sub_isotopologues.proofs.children.greatest_up_to.Goals as goal

pub loop-gain-init : goal.loop-gain-init
loop-gain-init c = first_none c.args.node.weights.now c.args.node.mode.now c.args.node.counts.now c.args.up_to 0

pub loop-gain-preserved : goal.loop-gain-preserved
loop-gain-preserved c =
    first_more c.args.node.weights.now c.args.node.mode.now c.args.node.counts.now c.args.up_to c.loop-gain.gain
    c.loop-gain.greatest c.greatest_gaining.result c.max-greatest.result
    (omega (arith, c.max-greatest.ensures)) (omega (arith, c.max-greatest.ensures)) c.loop-gain.invariant
    c.greatest_gaining.ensures
