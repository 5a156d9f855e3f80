use Rattle.std.proofs.Common.{true, length, drop, sym, ◌∙◌, ap}
use Rattle.std.proofs.lemmas.List.{take_at}
use Rattle.layered_envelope.specs.Walks.{places_of}
use Rattle.layered_envelope.specs.LayerWalks.{left, seen_walk}
use Rattle.layered_envelope.proofs.MemberWalks.{members-fall, members-modes, members-most, first-left, next-left, end-left, left-member}
use Rattle.layered_envelope.proofs.members.Members.step_on.Goals as goal

pub advance-requires-clause-falling : goal.advance-requires-clause-falling
advance-requires-clause-falling g c =
    let s = c.self.inside in
    members-fall s.lists.now s.modes.now s.threshold s.choices.items s.has_given c.self.invariant

pub advance-requires-clause-modes : goal.advance-requires-clause-modes
advance-requires-clause-modes g c =
    let s = c.self.inside in
    members-modes s.lists.now s.modes.now s.threshold s.choices.items s.has_given c.self.invariant

pub advance-requires-clause-at_most_one : goal.advance-requires-clause-at_most_one
advance-requires-clause-at_most_one g c =
    let s = c.self.inside in
    members-most s.lists.now s.modes.now s.threshold s.choices.items s.has_given c.self.invariant

pub returns-then-not-self-clause-next : goal.returns-then-not-self-clause-next
returns-then-not-self-clause-next g c =
    let s = c.self.inside in
    ap left (sym c.self.view_is)
    ∙ ap (λ b. left (seen_walk s.lists.now s.threshold s.choices.items b)) c.if-not-self.true
    ∙ first-left s.lists.now s.modes.now s.threshold s.choices.items s.has_given c.self.invariant c.if-not-self.true

pub returns-then-not-advance-clause-end : goal.returns-then-not-advance-clause-end
returns-then-not-advance-clause-end g c =
    let s = c.self.inside in
    let none = rw c.deref_mut.ensures.value at c.if-not-advance.ensures.next.0 in
    ap left (sym c.self.view_is)
    ∙ ap (λ b. left (seen_walk s.lists.now s.threshold s.choices.items b)) c.if-not-self.false
    ∙ end-left s.lists.now s.modes.now s.threshold s.choices.items s.has_given c.self.invariant none

pub returns-clause-next : goal.returns-clause-next
returns-clause-next g c =
    let s = c.self.inside in
    let new = c.advance.new.choices in
    let e = take_at new (drop (length new) s.choices.items) s.choices.len (c.advance.auto.choices
    ∙ c.deref_mut.ensures.len) in
    let next = rw c.deref_mut.ensures.value at c.if-not-advance.ensures.next in
    rw (c.if-not-self.false, e)
    (ap left (sym c.self.view_is)
    ∙ ap (λ b. left (seen_walk s.lists.now s.threshold s.choices.items b)) c.if-not-self.false
    ∙ next-left s.lists.now s.modes.now s.threshold s.choices.items s.has_given c.self.invariant new
    c.advance.ensures.walk next)

pub returns-then-not-self-clause-member : goal.returns-then-not-self-clause-member
returns-then-not-self-clause-member g c =
    let s = c.self.inside in
    left-member c.args.self.now (places_of s.choices.items)
    (left (seen_walk s.lists.now s.threshold s.choices.items true))
    (ap left (sym c.self.view_is)
    ∙ ap (λ b. left (seen_walk s.lists.now s.threshold s.choices.items b)) c.if-not-self.true
    ∙ first-left s.lists.now s.modes.now s.threshold s.choices.items s.has_given c.self.invariant c.if-not-self.true)

pub returns-clause-member : goal.returns-clause-member
returns-clause-member g c =
    let s = c.self.inside in
    let new = c.advance.new.choices in
    let e = take_at new (drop (length new) s.choices.items) s.choices.len (c.advance.auto.choices
    ∙ c.deref_mut.ensures.len) in
    let next = rw c.deref_mut.ensures.value at c.if-not-advance.ensures.next in
    rw (c.if-not-self.false, e)
    (left-member c.args.self.now (places_of new) (left (seen_walk s.lists.now s.threshold new true))
    (ap left (sym c.self.view_is)
    ∙ ap (λ b. left (seen_walk s.lists.now s.threshold s.choices.items b)) c.if-not-self.false
    ∙ next-left s.lists.now s.modes.now s.threshold s.choices.items s.has_given c.self.invariant new
    c.advance.ensures.walk next))
