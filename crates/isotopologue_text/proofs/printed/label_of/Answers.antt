use Rattle.std.proofs.Common.{length, length-append, ap, arith}
use Rattle.written_items.specs.Items.{item_text}
use Rattle.isotopologue_text.proofs.PrintedLabels.{item-short}
use Rattle.isotopologue_text.proofs.printed.label_of.Goals as goal

pub label_with-requires : goal.label_with-requires
label_with-requires c =
    omega (
      arith,
      ap length c.deref.ensures.value,
      ap length c.in_ok-push_item.ensures.text,
      ap length c.in_ok-text.ensures.items,
      length-append c.in_ok-text.text.items (item_text c.args.item),
      item-short c.args.item c.text.ensures.symbol (omega arith),
    )
