-- The counts at a place are those of its row.
use Rattle.std.proofs.Common.{get_or, sum, sym, ap, ◌∙◌}
use Rattle.std.specs.List.{concat}
use Rattle.isotopologue_sets.specs.Covers.{Member}
use Rattle.layered_envelope.specs.declared.gathering.MemberRow.{MemberRow}
use Rattle.reaching_layer.specs.MemberRows.{row_counts}
use Rattle.reaching_layer.proofs.MemberRowLaws.{member_at, row_member-counts}
use Rattle.reaching_layer.proofs.members.Members.counts.Goals as goal

pub returns : goal.returns
returns c d =
    let isotopes = c.self.inside.isotopes.items in
    let counts = c.self.inside.counts.items in
    let rows = c.self.inside.rows.items in
    let row : MemberRow = get_or rows c.args.place c.index.result.now in
    rw (c.row_counts.ensures, c.as_slice.ensures.value, c.self.invariant)
    (ap (row_counts counts (sum isotopes)) c.index.ensures
    ∙ sym (row_member-counts isotopes counts row)
    ∙ ap (λ (m : Member). concat m.counts)
    (sym (member_at isotopes counts rows c.args.self.now c.self.view_is c.args.place d c.index.result.now c.requires)))
