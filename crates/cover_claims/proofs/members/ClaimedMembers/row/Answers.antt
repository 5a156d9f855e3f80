-- The counts at a place are a row.
use Rattle.cover_claims.proofs.MemberViews.{row-fits, row-length, row-counts}
use Rattle.cover_claims.proofs.members.ClaimedMembers.row.Goals as goal

pub row_at-requires : goal.row_at-requires
row_at-requires c =
    rw c.deref.ensures.value
    (row-fits c.self.inside.elements.items c.self.inside.counts.items c.self.inside.marks.items c.self.inside.isotopes
    c.args.self.now c.self.view_is c.self.invariant.1 c.self.invariant.2 c.args.place c.requires)

pub returns-clause-length : goal.returns-clause-length
returns-clause-length c =
    rw (c.row_at.ensures, c.deref.ensures.value)
    (row-length c.self.inside.elements.items c.self.inside.counts.items c.self.inside.marks.items c.self.inside.isotopes
    c.args.self.now c.self.view_is c.self.invariant.1 c.self.invariant.2 c.args.place c.requires)

pub returns-clause-counts : goal.returns-clause-counts
returns-clause-counts c =
    rw (c.row_at.ensures, c.deref.ensures.value)
    (row-counts c.self.inside.elements.items c.self.inside.counts.items c.self.inside.marks.items c.self.inside.isotopes
    c.args.self.now c.self.view_is c.self.invariant.1 c.self.invariant.2 c.args.place c.requires)
