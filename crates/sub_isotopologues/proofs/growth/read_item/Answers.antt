-- The room is as long as the item's counts.
use Rattle.std.proofs.Common.{length, sym, ◌∙◌, ap}
use Rattle.sub_isotopologues.specs.SubIsotopologues.{SubIsotopologue}
use Rattle.sub_isotopologues.proofs.growth.read_item.Goals as goal

pub copy_from_slice-requires : goal.copy_from_slice-requires
copy_from_slice-requires c =
    c.requires.room c.item_at-item.result.now
    ∙ ap (λ (i : SubIsotopologue). length i.counts) (sym (c.item_at-item.ensures c.item_at-item.result.now))
    ∙ ap length (sym c.counts.ensures)
