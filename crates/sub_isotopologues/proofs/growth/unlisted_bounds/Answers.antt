-- An item that is searched keeps its number; another one gets the greatest bound of its children.
use Rattle.std.proofs.Common.{◌≡◌, ◌<◌, [], length, sum, get_or, sym, ◌∙◌, ap}
use Rattle.std.proofs.lemmas.List.{length-map}
use Rattle.multinomial_bounds.specs.Weight.{IsCounts}
use Rattle.multinomial_bounds.specs.Bounds.{floor_of, ceiling_of}
use Rattle.multinomial_bounds.specs.Mode.{mode_of_atoms}
use Rattle.multinomial_bounds.specs.Path.{bound_of}
use Rattle.sub_isotopologues.specs.SubIsotopologues.{SubIsotopologue}
use Rattle.sub_isotopologues.specs.Growth.{AreItemsOver}
use Rattle.sub_isotopologues.proofs.ItemLists.{counts_in, counts-at, lo-at, hi-at, AreOlder-from, mode_counts_are}
use Rattle.sub_isotopologues.proofs.ItemOrder.{AreItemsOver-items}
use Rattle.sub_isotopologues.proofs.growth.unlisted_bounds.Goals as goal
use Rattle.sub_isotopologues.proofs.growth.unlisted_bounds.Goals.{After-index-items-place}

items_are : (c : After-index-items-place) →
    AreItemsOver c.args.weights.now (sum c.args.mode.now.counts) c.args.wanted.up_to c.args.items.now
items_are c = rw c.requires.older
    (AreItemsOver-items c.args.weights.now (sum c.args.mode.now.counts) c.args.wanted.up_to)

-- the counts of the item at the place
here : (c : After-index-items-place) →
    c.index-items-place.result.counts ≡ get_or (counts_in c.args.items.now) c.loop-place.place []
here c =
    ap (λ (i : SubIsotopologue). i.counts) c.index-items-place.is
    ∙ counts-at c.args.weights.now c.args.items.now (items_are c).values c.loop-place.place c.loop-place-test.true
    c.index-items-place.result

counts_are : (c : After-index-items-place) →
    IsCounts c.args.weights.now (sum c.args.mode.now.counts) c.index-items-place.result.counts
counts_are c =
    let within : c.loop-place.place < length (counts_in c.args.items.now) = rw length-map c.loop-place-test.true in
    rw (here c)
    ((AreOlder-from c.args.weights.now (sum c.args.mode.now.counts) c.args.wanted.up_to c.args.items.now
    (items_are c)).counts
    c.loop-place.place [] within)

pub node_of-node-requires-clause-few_atoms : goal.node_of-node-requires-clause-few_atoms
node_of-node-requires-clause-few_atoms c =
    let at = (goal.at.node_of-node-requires-clause-few_atoms c).After-index-items-place in
    rw (c.counts-else-is_searched.ensures, (counts_are at).atoms_agree) c.requires.few_atoms

pub node_of-node-requires-clause-same_places : goal.node_of-node-requires-clause-same_places
node_of-node-requires-clause-same_places c =
    let at = (goal.at.node_of-node-requires-clause-same_places c).After-index-items-place in
    rw c.counts-else-is_searched.ensures (counts_are at).places_agree

pub node_of-node-requires-clause-mode : goal.node_of-node-requires-clause-mode
node_of-node-requires-clause-mode c =
    let at = (goal.at.node_of-node-requires-clause-mode c).After-index-items-place in
    c.counts.ensures
    ∙ mode_counts_are c.args.weights.now (sum c.args.mode.now.counts) c.args.mode.now c.requires.mode
    ∙ ap (mode_of_atoms c.args.weights.now)
    (sym (ap sum c.counts-else-is_searched.ensures ∙ (counts_are at).atoms_agree))

pub node_of-node-requires-clause-lo : goal.node_of-node-requires-clause-lo
node_of-node-requires-clause-lo c =
    let at = (goal.at.node_of-node-requires-clause-lo c).After-index-items-place in
    c.enclosure.ensures.lo
    ∙ ap (λ (i : SubIsotopologue). i.lo) c.index-items-place.is
    ∙ lo-at c.args.weights.now c.args.items.now (items_are at).values c.loop-place.place c.loop-place-test.true
    c.index-items-place.result
    ∙ ap (bound_of floor_of c.args.weights.now) (sym (c.counts-else-is_searched.ensures ∙ here at))

pub node_of-node-requires-clause-hi : goal.node_of-node-requires-clause-hi
node_of-node-requires-clause-hi c =
    let at = (goal.at.node_of-node-requires-clause-hi c).After-index-items-place in
    c.enclosure.ensures.hi
    ∙ ap (λ (i : SubIsotopologue). i.hi) c.index-items-place.is
    ∙ hi-at c.args.weights.now c.args.items.now (items_are at).values c.loop-place.place c.loop-place-test.true
    c.index-items-place.result
    ∙ ap (bound_of ceiling_of c.args.weights.now) (sym (c.counts-else-is_searched.ensures ∙ here at))
