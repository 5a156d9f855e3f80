-- The text of a formula, some items at a time.
use Rattle.std.proofs.Common.{◌≡◌, ℕ, List, ◌++◌, take, drop, sym, ap, ◌∙◌}
use Rattle.std.proofs.lemmas.List.{take-append-drop}
use Rattle.std.proofs.lemmas.Grind.{flat_map-append}
use Rattle.written_items.specs.declared.item.Item.{Item}
use Rattle.written_items.specs.Items.{item_text, count_text}
use Rattle.formula_text.specs.PrintedText.{printed_text}

-- the first items and the others, by other names
pub items-joined : (n : ℕ) (items first others : List (Item × ℕ)) → first ≡ take n items → others ≡ drop n items
    → printed_text first ++ printed_text others ≡ printed_text items
items-joined n items first others first_is others_is =
    rw (first_is, others_is)
    (sym (flat_map-append (λ (p : Item × ℕ). item_text p.0 ++ count_text p.1) (take n items) (drop n items))
    ∙ ap printed_text (take-append-drop n items))
