-- The enclosure at a place is kept beside its counts.
use Rattle.std.proofs.Common.{◌<◌, length, ap, ◌∙◌, rules}
use Rattle.cover_claims.proofs.MemberViews.{enclosure-within, enclosure-lo, enclosure-hi}
use Rattle.cover_claims.proofs.members.ClaimedMembers.enclosure.Goals as goal
use Rattle.cover_claims.proofs.members.ClaimedMembers.enclosure.Goals.{After-self}

within : (c : After-self) → c.args.place < length c.self.inside.enclosures.items
within c =
    enclosure-within c.self.inside.elements.items c.self.inside.counts.items c.self.inside.marks.items
    c.self.inside.isotopes c.args.self.now c.self.view_is c.self.invariant.1 c.self.invariant.2 c.args.place c.requires
    c.self.inside.enclosures.items c.self.invariant.4

pub index-requires : goal.index-requires
index-requires c =
    let h : c.args.place < length c.self.inside.enclosures.items = within (goal.at.index-requires c).After-self in
    search rules

pub returns-clause-lo : goal.returns-clause-lo
returns-clause-lo c =
    ap (λ e. e.lo) c.index.ensures
    ∙ enclosure-lo c.self.inside.elements.items c.self.inside.counts.items c.self.inside.marks.items
    c.self.inside.isotopes c.args.self.now c.self.view_is c.self.invariant.1 c.self.invariant.2 c.args.place c.requires
    c.self.inside.enclosures.items c.self.invariant.4 c.index.result.now

pub returns-clause-hi : goal.returns-clause-hi
returns-clause-hi c =
    ap (λ e. e.hi) c.index.ensures
    ∙ enclosure-hi c.self.inside.elements.items c.self.inside.counts.items c.self.inside.marks.items
    c.self.inside.isotopes c.args.self.now c.self.view_is c.self.invariant.1 c.self.invariant.2 c.args.place c.requires
    c.self.inside.enclosures.items c.self.invariant.4 c.index.result.now
