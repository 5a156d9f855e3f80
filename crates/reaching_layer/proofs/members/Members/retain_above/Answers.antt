use Rattle.std.proofs.Common.{◌≡◌, ltb, map, rules, sym, ◌∙◌, ap}
use Rattle.std.specs.Prelude.{filter}
use Rattle.std.proofs.lemmas.Fn.{filter_same}
use Rattle.layered_envelope.specs.declared.gathering.MemberRow.{MemberRow}
use Rattle.reaching_layer.specs.MemberRows.{row_member}
use Rattle.reaching_layer.proofs.MemberRowLaws.{members_above}
use Rattle.reaching_layer.proofs.members.Members.retain_above.Goals as goal

pub returns : goal.returns
returns c =
    let s = c.self.inside in
    let kept : c.retain.new.self.items ≡ filter (λ (r : MemberRow). ltb c.args.threshold r.enclosure.hi) s.rows.items =
    filter_same _ (λ (r : MemberRow). ltb c.args.threshold r.enclosure.hi) _ (λ r b f' k. search rules) _ _
    c.retain.ensures.filtered in
    ap (map (row_member s.isotopes.items s.counts.items)) kept
    ∙ sym (members_above s.isotopes.items s.counts.items s.rows.items c.args.self.now c.self.view_is c.args.threshold)
