-- The first of the grown items are those of the definition.
use Rattle.std.proofs.Common.{◌≡◌, take, ◌∙◌, ap, subst}
use Rattle.multinomial_bounds.specs.Weight.{IsWeights}
use Rattle.sub_isotopologues.specs.Listings.{Listing, items_of}
use Rattle.sub_isotopologues.proofs.ListLaws.{items-IsCounts, items-IsEnclosure, items-falling}
use Rattle.sub_isotopologues.proofs.sub_isos.SubIsos.items.Goals as goal
use Rattle.sub_isotopologues.proofs.sub_isos.SubIsos.items.Goals.{After-items}

listed : (c : After-items) → take c.self.inside.listed c.items.result.now ≡ items_of c.args.self.now
listed c =
    ap (take c.self.inside.listed) c.items.ensures.items ∙ c.self.invariant.items_are ∙ ap items_of c.self.view_is

pub returns-clause-counts : goal.returns-clause-counts
returns-clause-counts c = rw (listed c) (items-IsCounts c.args.self.now)

pub returns-clause-encloses : goal.returns-clause-encloses
returns-clause-encloses c =
    let P : Listing → Type 0 = λ l. IsWeights l.element.weights in
    rw (listed c) (items-IsEnclosure c.args.self.now (subst P c.self.view_is c.self.invariant.weights))

pub returns-clause-falling : goal.returns-clause-falling
returns-clause-falling c = rw (listed c) (items-falling c.args.self.now)
