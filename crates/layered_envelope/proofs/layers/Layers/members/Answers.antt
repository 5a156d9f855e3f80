use Rattle.std.proofs.Common.{None, ◌∙◌, ap}
use Rattle.layered_envelope.specs.LayerWalks.{left}
use Rattle.layered_envelope.proofs.GivenLayers.{given-falls, given-members, members-begin, seen-walk, left-walk_of}
use Rattle.layered_envelope.proofs.layers.Layers.members.Goals as goal

pub first_choices-requires : goal.first_choices-requires
first_choices-requires c =
    let s = c.self.inside in
    rw c.as_slice-lists.ensures.value
    (given-falls s.lists.items s.modes.items s.mode_hi s.given c.self.invariant.0 c.args.self.now c.self.view_is
    c.requires)

pub returns-in_err-choices-clause-members : goal.returns-in_err-choices-clause-members
returns-in_err-choices-clause-members c =
    let s = c.self.inside in
    given-members s.lists.items s.modes.items s.mode_hi s.given c.self.invariant.0 c.args.self.now c.self.view_is
    c.requires

pub returns-clause-members : goal.returns-clause-members
returns-clause-members c =
    let s = c.self.inside in
    given-members s.lists.items s.modes.items s.mode_hi s.given c.self.invariant.0 c.args.self.now c.self.view_is
    c.requires

pub invariant_of-result : goal.invariant_of-result
invariant_of-result c =
    let s = c.self.inside in
    rw (c.as_slice-lists.ensures.value, c.as_slice-modes.ensures.value)
    (members-begin s.lists.items s.modes.items s.mode_hi s.given c.self.invariant.0 c.args.self.now c.self.view_is
    c.requires
    c.in_ok-choices.choices.items (rw c.as_slice-lists.ensures.value at c.in_ok-choices.ensures.walk)
    (rw c.as_slice-lists.ensures.value at c.in_ok-choices.ensures.places))

pub returns-clause-start : goal.returns-clause-start
returns-clause-start c =
    let s = c.self.inside in
    rw c.as_slice-lists.ensures.value
    (seen-walk s.lists.items s.modes.items s.mode_hi s.given c.self.invariant.0 c.args.self.now c.self.view_is
    c.requires None)

pub returns-clause-all_left : goal.returns-clause-all_left
returns-clause-all_left c =
    let s = c.self.inside in
    rw c.as_slice-lists.ensures.value
    (ap left (seen-walk s.lists.items s.modes.items s.mode_hi s.given c.self.invariant.0 c.args.self.now c.self.view_is
    c.requires None)
    ∙ left-walk_of c.args.self.now None)
