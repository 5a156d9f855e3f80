-- A child has the upper bound that one move gives.
use Rattle.std.proofs.Common.{◌≡◌, arith}
use Rattle.sub_isotopologues.proofs.Descent.{IsMoveTo-from, child_item}
use Rattle.multinomial_bounds.specs.Bounds.{ceiling_of}
use Rattle.multinomial_bounds.specs.Path.{bound_of}
use Rattle.sub_isotopologues.specs.Children.{moved}
use Rattle.sub_isotopologues.proofs.children.child_up_to.Goals as goal
use Rattle.sub_isotopologues.proofs.children.child_up_to.Goals.{After-move_down-enclosure}

pub move_down-enclosure-requires-clause-has_atom : goal.move_down-enclosure-requires-clause-has_atom
move_down-enclosure-requires-clause-has_atom c =
    (IsMoveTo-from _ _ _ _ _ _ _ c.args.gain c.args.lose c.requires.node c.requires.gain_within c.requires.lose_within
    c.requires.child).has

pub move_down-enclosure-requires-clause-falls : goal.move_down-enclosure-requires-clause-falls
move_down-enclosure-requires-clause-falls c =
    (IsMoveTo-from _ _ _ _ _ _ _ c.args.gain c.args.lose c.requires.node c.requires.gain_within c.requires.lose_within
    c.requires.child).falls

hi_is : (c : After-move_down-enclosure) →
    c.move_down-enclosure.result.hi
    ≡ bound_of ceiling_of c.args.node.weights.now (moved c.args.node.counts.now c.args.gain c.args.lose)
hi_is c =
    let move = IsMoveTo-from _ _ _ _ _ _ _ c.args.gain c.args.lose c.requires.node c.requires.gain_within
    c.requires.lose_within c.requires.child in
    (child_item _ _ _ _ _ _ _ c.args.gain c.args.lose _ _ c.requires.node move c.move_down-enclosure.ensures.lo
    c.move_down-enclosure.ensures.hi).1

pub returns-then-enclosure-up_to : goal.returns-then-enclosure-up_to
returns-then-enclosure-up_to c low =
    omega (arith, hi_is (goal.at.returns-then-enclosure-up_to c).After-move_down-enclosure)

pub returns-else-enclosure-up_to : goal.returns-else-enclosure-up_to
returns-else-enclosure-up_to c low =
    absurd (omega (
      arith,
      low,
      c.if-enclosure-up_to.false,
      hi_is
          (goal.at.returns-else-enclosure-up_to c).After-move_down-enclosure,
    ))
