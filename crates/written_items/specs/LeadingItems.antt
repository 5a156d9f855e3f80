-- The item that a text begins with, computed: the one answer that IsLeadingItem and the place of bad text
-- allow. Proofs use it, and definitions of readers of whole rows.
use Rattle.std.specs.Prelude.{ℕ, ◌+◌, ◌==◌, List, length, take, drop, if◌then◌else◌, Option, Some, None, Result, Ok}
use Rattle.std.specs.Prelude.{Err}
use Rattle.std.specs.List.{prefix_len}
use Rattle.fixed_decimal.specs.Decimal.{leading_digits}
use Rattle.element_table.specs.SymbolText.{is_symbol, is_small}
use Rattle.written_items.specs.declared.item.LeadingItem.{LeadingItem}
use Rattle.written_items.specs.declared.item.BadItem.{BadItem}
use Rattle.written_items.specs.Items.{opening_bracket, closing_bracket}
use Rattle.written_items.specs.WrittenItems.{WrittenItem, begins, item_value}

-- the letters of the symbol that a text begins with, if its first byte is a capital letter
abbrev pub symbol_letters : List ℕ → List ℕ
symbol_letters text = take (1 + prefix_len is_small (take 2 (drop 1 text))) text

-- the symbol that a text begins with
abbrev pub leading_symbol : List ℕ → Option (List ℕ)
leading_symbol text = if is_symbol (symbol_letters text) then Some (symbol_letters text) else None

-- the item in brackets, where its digits and then perhaps a symbol were read and a text follows
abbrev pub closed_item : List ℕ → Option (List ℕ) → List ℕ → Result WrittenItem ℕ
closed_item digits None text = Err (1 + length digits)
closed_item digits (Some symbol) text =
    if begins (λ byte. byte == closing_bracket) (drop (length symbol) text)
    then Ok (record { symbol = symbol; digits = Some digits })
    else Err (1 + length digits + length symbol)

-- the item in brackets whose text behind its digits is this
abbrev pub numbered_item : List ℕ → List ℕ → Result WrittenItem ℕ
numbered_item digits text =
    if length digits == 0 then Err 1 else closed_item digits (leading_symbol text) text

-- the item in brackets whose text behind the first bracket is this; a place is counted from that bracket
abbrev pub labelled_item : List ℕ → Result WrittenItem ℕ
labelled_item text = numbered_item (leading_digits text) (drop (length (leading_digits text)) text)

-- the item without brackets
abbrev pub plain_item : Option (List ℕ) → Result WrittenItem ℕ
plain_item None = Err 0
plain_item (Some symbol) = Ok (record { symbol = symbol; digits = None })

-- the item that a text begins with, or the place at which no item can go on
unfoldable pub leading_item : List ℕ → Result WrittenItem ℕ
leading_item text =
    if begins (λ byte. byte == opening_bracket) text then labelled_item (drop 1 text)
    else plain_item (leading_symbol text)

-- the same as a reader tells it
abbrev pub item_answer : Result WrittenItem ℕ → Result LeadingItem BadItem
item_answer (Ok item) = Ok (item_value item)
item_answer (Err place) = Err (record { at = place })
