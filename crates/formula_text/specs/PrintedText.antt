-- The one printed text of a formula.
use Rattle.std.specs.Prelude.{ℕ, List, ◌++◌}
use Rattle.std.specs.List.{flat_map}
use Rattle.written_items.specs.declared.item.Item.{Item}
use Rattle.written_items.specs.Items.{item_text, count_text}

-- each item with its count, in the order of the list
abbrev pub printed_text : List (Item × ℕ) → List ℕ
printed_text items = flat_map (λ p. item_text p.0 ++ count_text p.1) items
