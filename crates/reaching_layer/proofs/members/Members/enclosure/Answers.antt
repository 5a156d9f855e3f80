-- The enclosure at a place is that of its row.
use Rattle.std.proofs.Common.{sym, ap, ◌∙◌}
use Rattle.isotopologue_sets.specs.Covers.{Member}
use Rattle.layered_envelope.specs.declared.gathering.MemberRow.{MemberRow}
use Rattle.reaching_layer.specs.MemberRows.{row_member}
use Rattle.reaching_layer.proofs.MemberRowLaws.{member_at}
use Rattle.reaching_layer.proofs.members.Members.enclosure.Goals as goal

pub returns-clause-lo : goal.returns-clause-lo
unfolding row_member
returns-clause-lo c d =
    let s = c.self.inside in
    ap (λ (r : MemberRow). r.enclosure.lo) c.index.ensures
    ∙ ap (λ (m : Member). m.lo)
    (sym (member_at s.isotopes.items s.counts.items s.rows.items c.args.self.now c.self.view_is c.args.place d
    c.index.result.now c.requires))

pub returns-clause-hi : goal.returns-clause-hi
unfolding row_member
returns-clause-hi c d =
    let s = c.self.inside in
    ap (λ (r : MemberRow). r.enclosure.hi) c.index.ensures
    ∙ ap (λ (m : Member). m.hi)
    (sym (member_at s.isotopes.items s.counts.items s.rows.items c.args.self.now c.self.view_is c.args.place d
    c.index.result.now c.requires))
