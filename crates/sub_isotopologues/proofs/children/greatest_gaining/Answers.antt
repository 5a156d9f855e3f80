-- The number rises with each child.
use Rattle.std.proofs.Common.{sym, ◌∙◌, arith}
use Rattle.sub_isotopologues.proofs.ChildBounds.{gaining_none, gaining_moves, gaining_stays}
use Rattle.sub_isotopologues.proofs.children.greatest_gaining.Goals as goal
use Rattle.sub_isotopologues.proofs.children.greatest_gaining.Goals.{then-is_child_move, else-is_child_move}

pub loop-lose-init : goal.loop-lose-init
loop-lose-init c = gaining_none c.args.node.weights.now c.args.node.mode.now c.args.node.counts.now c.args.up_to
    c.args.gain 0

pub loop-lose-preserved : goal.loop-lose-preserved
loop-lose-preserved c =
    elim c.if-is_child_move.branch [
      | then-is_child_move w ↦
          gaining_moves c.args.node.weights.now c.args.node.mode.now c.args.node.counts.now c.args.up_to c.args.gain
          c.loop-lose.lose c.loop-lose.greatest w.child_up_to.result c.if-is_child_move.greatest
          (sym c.is_child_move.ensures ∙ w.if-is_child_move.true)
          (omega (arith, w.greatest-is, w.max-greatest.ensures)) (omega (arith, w.greatest-is, w.max-greatest.ensures))
          c.loop-lose.invariant w.child_up_to.ensures
      | else-is_child_move w ↦
          rw w.greatest-is
          (gaining_stays c.args.node.weights.now c.args.node.mode.now c.args.node.counts.now c.args.up_to c.args.gain
          c.loop-lose.lose c.loop-lose.greatest
          (sym c.is_child_move.ensures ∙ w.if-is_child_move.false) c.loop-lose.invariant)
    ]
