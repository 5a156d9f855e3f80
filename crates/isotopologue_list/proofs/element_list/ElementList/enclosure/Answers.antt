-- The enclosure at a place is kept beside its counts.
use Rattle.std.proofs.Common.{◌≡◌, ◌<◌, ◌*◌, length, get_or, take, drop, sym, ◌∙◌, ap, rules}
use Rattle.isotopologue_list.specs.Listed.{BoundedCounts}
use Rattle.isotopologue_list.proofs.RowLemmas.{length-kept, kept}
use Rattle.isotopologue_list.proofs.element_list.ElementList.enclosure.Goals as goal
use Rattle.isotopologue_list.proofs.element_list.ElementList.enclosure.Goals.{After-self, After-index}

within : (c : After-self) → c.args.place < length c.self.inside.enclosures.items
within c =
    let few : length c.args.self.now ≡ length c.self.inside.enclosures.items =
    ap length (sym c.self.view_is)
    ∙ length-kept (λ e. e.lo) (λ e. e.hi) c.self.inside.places c.self.inside.counts.items c.self.inside.enclosures.items in
    rw few at c.requires

pub index-requires : goal.index-requires
index-requires c =
    let h : c.args.place < length c.self.inside.enclosures.items = within (goal.at.index-requires c).After-self in
    search rules

at_place : (c : After-index) (d : BoundedCounts) → c.args.place < length c.self.inside.enclosures.items →
    get_or c.args.self.now c.args.place d
    ≡ record {
      counts = take c.self.inside.places (drop (c.args.place * c.self.inside.places) c.self.inside.counts.items);
      lo = c.index.result.now.lo;
      hi = c.index.result.now.hi;
    }
at_place c d inside =
    ap (λ xs. get_or xs c.args.place d) (sym c.self.view_is)
    ∙ kept (λ e. e.lo) (λ e. e.hi) c.self.inside.places c.self.inside.counts.items c.self.inside.enclosures.items
    c.args.place d c.index.result.now inside
    ∙ ap (λ e. let r : BoundedCounts = record {
      counts = take c.self.inside.places (drop (c.args.place * c.self.inside.places) c.self.inside.counts.items);
      lo = e.lo;
      hi = e.hi;
    } in r) (sym c.index.ensures)

pub returns-clause-lo : goal.returns-clause-lo
returns-clause-lo c d = sym (ap (λ r. r.lo) (at_place (goal.at.returns-clause-lo c).After-index d (within (goal.at.returns-clause-lo c).After-self)))

pub returns-clause-hi : goal.returns-clause-hi
returns-clause-hi c d = sym (ap (λ r. r.hi) (at_place (goal.at.returns-clause-hi c).After-index d (within (goal.at.returns-clause-hi c).After-self)))
