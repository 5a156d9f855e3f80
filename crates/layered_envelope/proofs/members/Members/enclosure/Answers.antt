use Rattle.std.proofs.Common.{length, sym, ◌∙◌, ap}
use Rattle.layered_envelope.proofs.MemberWalks.{lo_seen, hi_seen}
use Rattle.layered_envelope.proofs.members.Members.enclosure.Goals as goal

pub returns-clause-lo : goal.returns-clause-lo
returns-clause-lo c =
    let s = c.self.inside in
    let is = rw c.deref.ensures.value at c.before_of.ensures.lo in
    let all = c.len.ensures ∙ sym c.deref.ensures.len ∙ ap length c.deref.ensures.value in
    rw (← c.self.view_is)
    (lo_seen s.lists.now s.modes.now s.threshold s.choices.items s.has_given c.self.invariant c.len.result
    c.before_of.result.lo all is)

pub returns-clause-hi : goal.returns-clause-hi
returns-clause-hi c =
    let s = c.self.inside in
    let is = rw c.deref.ensures.value at c.before_of.ensures.hi in
    let all = c.len.ensures ∙ sym c.deref.ensures.len ∙ ap length c.deref.ensures.value in
    rw (← c.self.view_is)
    (hi_seen s.lists.now s.modes.now s.threshold s.choices.items s.has_given c.self.invariant c.len.result
    c.before_of.result.hi all is)
