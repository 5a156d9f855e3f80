-- Each row has one enclosure.
use Rattle.std.proofs.Common.{◌≡◌, length, sym, ◌∙◌, ap, rules}
use Rattle.isotopologue_list.proofs.RowLemmas.{length-kept}
use Rattle.isotopologue_list.proofs.element_list.ElementList.len.Goals as goal

pub returns : goal.returns
returns c =
    let items : c.len.result ≡ length c.self.inside.enclosures.items = search rules in
    items
    ∙ sym (length-kept (λ e. e.lo) (λ e. e.hi) c.self.inside.places c.self.inside.counts.items c.self.inside.enclosures.items)
    ∙ ap length c.self.view_is
