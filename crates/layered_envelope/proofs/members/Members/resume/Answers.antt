use Rattle.std.proofs.Common.{Some, refl, ◌∙◌, ap}
use Rattle.std.proofs.lemmas.Bool.{false≢true}
use Rattle.std.proofs.lemmas.Result.{err_from_is_err_and}
use Rattle.layered_envelope.specs.LayerWalks.{left}
use Rattle.layered_envelope.proofs.GivenLayers.{given-member, members-go_on, seen-walk, left-walk_of}
use Rattle.layered_envelope.proofs.members.Members.resume.Goals as goal

pub returns-then-not-is_member-clause-not_in_layer : goal.returns-then-not-is_member-clause-not_in_layer
returns-then-not-is_member-clause-not_in_layer c =
    let s = c.layers.inside in
    let member = given-member s.lists.items s.modes.items s.mode_hi s.given c.layers.invariant.0 c.args.layers.now
    c.layers.view_is c.requires c.args.after.now in
    let fails = rw (c.as_slice-lists.ensures.value, c.places.ensures) at c.if-not-is_member.ensures.1 in
    (λ _ has. false≢true (fails (member.1 has)), λ _. refl)

pub returns-in_err-choices-clause-not_in_layer : goal.returns-in_err-choices-clause-not_in_layer
returns-in_err-choices-clause-not_in_layer c =
    let s = c.layers.inside in
    let member = given-member s.lists.items s.modes.items s.mode_hi s.given c.layers.invariant.0 c.args.layers.now
    c.layers.view_is c.requires c.args.after.now in
    let test = rw (c.as_slice-lists.ensures.value, c.places.ensures) at (c.if-not-is_member.ensures.0 refl) in
    let has = member.0 test in
    let p = err_from_is_err_and c.from_residual.result c.from_residual.ensures.1 in
    rw (p.1, p.2) (λ is. absurd (cc), λ none. absurd (none has))

pub invariant_of-result : goal.invariant_of-result
invariant_of-result c =
    let s = c.layers.inside in
    rw (c.as_slice-lists.ensures.value, c.as_slice-modes.ensures.value)
    (members-go_on s.lists.items s.modes.items s.mode_hi s.given c.layers.invariant.0 c.args.layers.now c.layers.view_is
    c.requires
    c.in_ok-choices.choices.items (rw c.as_slice-lists.ensures.value at c.in_ok-choices.ensures.walk))

pub returns-clause-resumed : goal.returns-clause-resumed
returns-clause-resumed c =
    let s = c.layers.inside in
    rw (c.as_slice-lists.ensures.value, c.in_ok-choices.ensures.places, c.places-2.ensures)
    (seen-walk s.lists.items s.modes.items s.mode_hi s.given c.layers.invariant.0 c.args.layers.now c.layers.view_is
    c.requires
    (Some c.args.after.now))

pub returns-clause-rest_left : goal.returns-clause-rest_left
returns-clause-rest_left c =
    let s = c.layers.inside in
    rw (c.as_slice-lists.ensures.value, c.in_ok-choices.ensures.places, c.places-2.ensures)
    (ap left (seen-walk s.lists.items s.modes.items s.mode_hi s.given c.layers.invariant.0 c.args.layers.now
    c.layers.view_is
    c.requires (Some c.args.after.now))
    ∙ left-walk_of c.args.layers.now (Some c.args.after.now))

pub returns-clause-in_layer : goal.returns-clause-in_layer
returns-clause-in_layer c =
    let s = c.layers.inside in
    let member = given-member s.lists.items s.modes.items s.mode_hi s.given c.layers.invariant.0 c.args.layers.now
    c.layers.view_is c.requires c.args.after.now in
    let test = rw (c.as_slice-lists.ensures.value, c.places.ensures) at (c.if-not-is_member.ensures.0 refl) in
    let has = member.0 test in
    has

pub returns-clause-not_in_layer : goal.returns-clause-not_in_layer
returns-clause-not_in_layer c =
    let s = c.layers.inside in
    let member = given-member s.lists.items s.modes.items s.mode_hi s.given c.layers.invariant.0 c.args.layers.now
    c.layers.view_is c.requires c.args.after.now in
    let test = rw (c.as_slice-lists.ensures.value, c.places.ensures) at (c.if-not-is_member.ensures.0 refl) in
    let has = member.0 test in
    (λ is. absurd (cc), λ none. absurd (none has))
