use Rattle.std.proofs.Common.{◌∙◌, sym}
use Rattle.reaching_layer.proofs.MemberRowLaws.{total_above}
use Rattle.reaching_layer.proofs.members.Members.lower_total_above.Goals as goal

pub returns : goal.returns
returns c =
    let s = c.self.inside in
    rw (c.deref.ensures.value) at c.lower_total_above.ensures
    ∙ sym (total_above s.isotopes.items s.counts.items s.rows.items c.args.self.now c.self.view_is c.args.threshold)
