-- The items fall, so a search finds where those that are above end.
use Rattle.std.proofs.Common.{◌∙◌, ap, ltb, rules}
use Rattle.std.proofs.lemmas.List.Sorted.{IsPartitionPoint-from_clause}
use Rattle.sub_isotopologues.specs.Growth.{grown_items}
use Rattle.sub_isotopologues.proofs.FrontItems.{items-parted, items-first}
use Rattle.sub_isotopologues.proofs.grown.GrownItems.count_above.Goals as goal

pub returns-clause-first : goal.returns-clause-first
returns-clause-first c =
    let g = c.args.self.now in
    let items = c.deref.ensures.value ∙ c.self.invariant.items_are ∙ ap grown_items c.self.view_is in
    items-first g.element.weights g.element.atoms g.above c.args.above c.requires c.partition_point.result
    (rw items at c.partition_point.ensures.bound)
    (IsPartitionPoint-from_clause (λ i. ltb c.args.above i.hi) (grown_items g) c.partition_point.result
    (rw items at c.partition_point.ensures.partitioned)
    (items-parted g.element.weights g.element.atoms g.above c.args.above c.requires)
    (λ a r f k. search rules))
