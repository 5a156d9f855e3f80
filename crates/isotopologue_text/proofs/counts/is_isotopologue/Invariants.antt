use Rattle.std.proofs.Common.{drop}
use Rattle.isotopologue_text.specs.Isotopologues.{plain_items}
use Rattle.isotopologue_text.proofs.Splits.{Splits}
use Rattle.isotopologue_text.proofs.counts.is_isotopologue.Given as goal

-- the counts are an isotopologue's exactly where the rest is of the items that are left
abbrev pub invariant-loop-item : goal.invariant-loop-item
invariant-loop-item l = record {
  whole : Splits l.table (plain_items (drop l.item-index l.items)) l.rest → Splits l.table (plain_items l.items) l.fn.counts;
  rest : Splits l.table (plain_items l.items) l.fn.counts → Splits l.table (plain_items (drop l.item-index l.items)) l.rest;
}
