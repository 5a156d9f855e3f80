-- A child has the enclosure that one move gives, and is appended where its upper bound is looked for.
use Rattle.std.proofs.Common.{◌≡◌, ◌++◌, ◌∷◌, [], Bool, true, false, cond, refl, sym, ◌∙◌, ap, arith}
use Rattle.std.proofs.lemmas.List.{append-nil}
use Rattle.std.proofs.lemmas.Result.{IfErr-weaker}
use Rattle.sub_isotopologues.specs.SubIsotopologues.{SubIsotopologue, sub_isotopologue_of}
use Rattle.sub_isotopologues.specs.Children.{wanted_of, moved, in_band}
use Rattle.sub_isotopologues.proofs.Descent.{IsMoveTo-from, child_item}
use Rattle.sub_isotopologues.proofs.FaultLemmas.{OnlyTooMany-weaker}
use Rattle.sub_isotopologues.proofs.WantedItems.{wanted_of-one}
use Rattle.sub_isotopologues.proofs.children.append_child.Goals as goal
use Rattle.sub_isotopologues.proofs.children.append_child.Goals.{After-move_down-arg-3-1, Then-not-has, After-push_within}

pub move_down-enclosure-requires-clause-has_atom : goal.move_down-enclosure-requires-clause-has_atom
move_down-enclosure-requires-clause-has_atom c =
    (IsMoveTo-from _ _ _ _ _ _ _ c.args.gain c.args.lose c.requires.node c.requires.gain_within c.requires.lose_within
    c.requires.child).has

pub move_down-enclosure-requires-clause-falls : goal.move_down-enclosure-requires-clause-falls
move_down-enclosure-requires-clause-falls c =
    (IsMoveTo-from _ _ _ _ _ _ _ c.args.gain c.args.lose c.requires.node c.requires.gain_within c.requires.lose_within
    c.requires.child).falls

pub returns-then-not-has-clause-appended : goal.returns-then-not-has-clause-appended
returns-then-not-has-clause-appended c =
    let ws = c.args.node.weights.now in
    let y = moved c.args.node.counts.now c.args.gain c.args.lose in
    let move = IsMoveTo-from _ _ _ _ _ _ _ c.args.gain c.args.lose c.requires.node c.requires.gain_within
    c.requires.lose_within c.requires.child in
    let bounds = child_item _ _ _ _ _ _ _ c.args.gain c.args.lose _ _ c.requires.node move
    c.move_down-enclosure.ensures.lo c.move_down-enclosure.ensures.hi in
    let out : in_band ws c.args.wanted.above c.args.wanted.up_to y ≡ false =
    rw (← bounds.1) (sym c.has.ensures ∙ c.if-not-has.true) in
    sym (append-nil c.args.found.now.items)
    ∙ ap (λ ys. c.args.found.now.items ++ ys)
    (sym (wanted_of-one ws c.args.wanted.above c.args.wanted.up_to y
    ∙ ap (λ (b : Bool). cond b (sub_isotopologue_of ws y ∷ []) []) out))

one_item : (c : After-push_within) →
    wanted_of c.args.node.weights.now c.args.wanted.above c.args.wanted.up_to
    (moved c.args.node.counts.now c.args.gain c.args.lose ∷ [])
    ≡ c.moved.result ∷ []
unfolding sub_isotopologue_of
one_item c =
    let ws = c.args.node.weights.now in
    let y = moved c.args.node.counts.now c.args.gain c.args.lose in
    let move = IsMoveTo-from _ _ _ _ _ _ _ c.args.gain c.args.lose c.requires.node c.requires.gain_within
    c.requires.lose_within c.requires.child in
    let bounds = child_item _ _ _ _ _ _ _ c.args.gain c.args.lose _ _ c.requires.node move
    c.move_down-enclosure.ensures.lo c.move_down-enclosure.ensures.hi in
    let inside : in_band ws c.args.wanted.above c.args.wanted.up_to y ≡ true =
    rw (← bounds.1) (sym c.has.ensures ∙ c.if-not-has.false) in
    let item : c.moved.result ≡ sub_isotopologue_of ws y = c.moved.ensures ∙ rw (bounds.0, bounds.1) refl in
    wanted_of-one ws c.args.wanted.above c.args.wanted.up_to y
    ∙ ap (λ (b : Bool). cond b (sub_isotopologue_of ws y ∷ []) []) inside
    ∙ ap (λ (i : SubIsotopologue). i ∷ []) (sym item)

pub returns-clause-appended : goal.returns-clause-appended
returns-clause-appended c =
    rw (one_item (goal.at.returns-clause-appended c).After-push_within) c.push_within.ensures.pushed

pub returns-clause-cause : goal.returns-clause-cause
returns-clause-cause c =
    rw (one_item (goal.at.returns-clause-cause c).After-push_within)
    (IfErr-weaker c.push_within.result _ _
    (λ f cause. OnlyTooMany-weaker _ _ f (λ many. omega (arith, many)) cause) c.push_within.ensures.cause)
