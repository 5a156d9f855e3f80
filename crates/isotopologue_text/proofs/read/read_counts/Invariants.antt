use Rattle.std.proofs.Common.{◌≡◌, drop}
use Rattle.isotopologue_text.specs.Isotopologues.{plain_items}
use Rattle.isotopologue_text.specs.ReadCounts.{counts_after}
use Rattle.isotopologue_text.proofs.read.read_counts.Given as goal

-- what the items left give behind the counts so far is what all give
abbrev pub invariant-loop-item : goal.invariant-loop-item
invariant-loop-item l =
    counts_after l.table (plain_items (drop l.item-index l.items)) l.counts.items l.rest
    ≡ counts_after l.table (plain_items l.items) l.initial.counts.items l.text
