-- The items from before stand in front, and those that are found behind them in their order.
use Rattle.std.proofs.Common.{sum, rules}
use Rattle.std.proofs.lemmas.Fn.{always_returns_same}
use Rattle.sub_isotopologues.specs.Growth.{item_stands_before}
use Rattle.sub_isotopologues.proofs.ItemOrder.{AreItemsOver-items, joined, item_order}
use Rattle.sub_isotopologues.proofs.growth.added_items.Goals as goal

pub found_items-requires-clause-older : goal.found_items-requires-clause-older
found_items-requires-clause-older c =
    rw c.requires.older (AreItemsOver-items c.args.weights.now (sum c.args.mode.now.counts) c.args.wanted.up_to)

pub returns-clause-added : goal.returns-clause-added
returns-clause-added c =
    joined c.args.weights.now (sum c.args.mode.now.counts) c.args.wanted.above c.args.wanted.up_to c.args.items.now
    c.in_ok-found.found.items c.sort_unstable_by.new.self.items c.requires.older c.in_ok-found.ensures.all
    c.in_ok-found.ensures.below c.sort_unstable_by.ensures.permutation
    (c.sort_unstable_by.ensures.sorted item_stands_before item_order
    (always_returns_same _ _ _ (λ a r g h. search rules)))
