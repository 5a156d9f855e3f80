-- The counts at a place are a row.
use Rattle.std.proofs.Common.{◌≡◌, ◌<◌, length, get_or, sym, ◌∙◌, ap}
use Rattle.isotopologue_list.proofs.RowLemmas.{length-kept, kept_counts, row_within}
use Rattle.isotopologue_list.proofs.element_list.ElementList.counts.Goals as goal
use Rattle.isotopologue_list.proofs.element_list.ElementList.counts.Goals.{After-deref}

within : (c : After-deref) → c.args.place < length c.self.inside.enclosures.items
within c =
    let few : length c.args.self.now ≡ length c.self.inside.enclosures.items =
    ap length (sym c.self.view_is)
    ∙ length-kept (λ e. e.lo) (λ e. e.hi) c.self.inside.places c.self.inside.counts.items c.self.inside.enclosures.items in
    rw few at c.requires

pub row_at-requires : goal.row_at-requires
row_at-requires c =
    rw (c.deref.ensures.value, c.self.invariant)
    (row_within c.args.place (length c.self.inside.enclosures.items) c.self.inside.places
    (within (goal.at.row_at-requires c).After-deref))

pub returns : goal.returns
returns c d =
    rw (c.row_at.ensures, c.deref.ensures.value)
    (sym (kept_counts (λ e. e.lo) (λ e. e.hi) c.self.inside.places c.self.inside.counts.items c.self.inside.enclosures.items
    c.args.place d (within (goal.at.returns c).After-deref))
    ∙ ap (λ xs. (get_or xs c.args.place d).counts) c.self.view_is)
