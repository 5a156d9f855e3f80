-- The mark at a place is kept beside its counts.
use Rattle.std.proofs.Common.{◌∙◌, arith}
use Rattle.cover_claims.proofs.MemberViews.{mark-within, mark-is}
use Rattle.cover_claims.proofs.members.ClaimedMembers.is_marked.Goals as goal

pub index-requires : goal.index-requires
index-requires c =
    let within =
    mark-within c.self.inside.elements.items c.self.inside.counts.items c.self.inside.marks.items c.self.inside.isotopes
    c.args.self.now c.self.view_is c.self.invariant.1 c.self.invariant.2 c.args.place c.requires in
    omega (arith, within, c.self.inside.marks.ok)

pub returns : goal.returns
returns c d =
    c.index.ensures
    ∙ mark-is c.self.inside.elements.items c.self.inside.counts.items c.self.inside.marks.items c.self.inside.isotopes
    c.args.self.now c.self.view_is c.self.invariant.1 c.self.invariant.2 c.args.place c.requires c.index.result.now d
