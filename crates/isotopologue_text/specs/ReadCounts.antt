-- The one answer that `IsOfText` allows, computed isotope by isotope; the layers above compute with it.
use Rattle.std.specs.Prelude.{ℕ, ◌-◌, ◌==◌, ◌||◌, List, [], ◌∷◌, ◌++◌, length, take, drop, map}
use Rattle.std.specs.Prelude.{if◌then◌else◌, Option, Some, None, option_map, option_and_then}
use Rattle.std.specs.List.{list_any}
use Rattle.std.specs.Str.{bytes_eq}
use Rattle.fixed_decimal.specs.Decimal.{at_most, leading_digits, whole_number}
use Rattle.element_table.specs.Elements.{TableEntries}
use Rattle.written_items.specs.declared.item.Item.{Item}
use Rattle.written_items.specs.Items.{item_text}
use Rattle.isotopologue_text.specs.Isotopologues.{dash, is_plain, isotope_item, isotopes_of, plain_items}

-- what stands behind a word at the beginning of a text, if the text begins with it
abbrev pub behind : List ℕ → List ℕ → Option (List ℕ)
behind word text = if bytes_eq (take (length word) text) word then Some (drop (length word) text) else None

-- the count that the digits behind an isotope print, if it is at most so many: 1 without a digit; no count begins with
-- 0, and a count of 1 isn't printed
abbrev pub printed_count : ℕ → List ℕ → Option ℕ
printed_count most [] = at_most most 1
printed_count most (digit ∷ []) = if (digit == 48) || (digit == 49) then None else whole_number most (digit ∷ [])
printed_count most (digit ∷ other ∷ digits) = if digit == 48 then None else whole_number most (digit ∷ other ∷ digits)

-- the count of an isotope behind which this stands, and the rest of the text; 0 where the text doesn't begin with it
abbrev pub count_behind : ℕ → List ℕ → Option (List ℕ) → Option (ℕ × List ℕ)
count_behind most text None = Some (0, text)
count_behind most text (Some rest) =
    option_map (λ count. (count, drop (length (leading_digits rest)) rest)) (printed_count most (leading_digits rest))

-- the count of an isotope at the beginning of a text, if it is at most so many, and the rest of the text
unfoldable pub leading_count : ℕ → Item → List ℕ → Option (ℕ × List ℕ)
leading_count most isotope text = count_behind most text (behind (item_text isotope) text)

-- the counts of isotopes at the beginning of a text behind earlier counts, if they sum to so many atoms, and the rest
abbrev pub element_counts : List Item → ℕ → List ℕ → List ℕ → Option (List ℕ × List ℕ)
element_counts [] atoms earlier text = if atoms == 0 then Some (earlier, text) else None
element_counts (isotope ∷ isotopes) atoms earlier text =
    option_and_then (λ p. element_counts isotopes (atoms - p.0) (earlier ++ p.0 ∷ []) p.1)
    (leading_count atoms isotope text)

-- the isotopes of an item's element that occur, as labelled items
abbrev pub item_isotopes : TableEntries → Item → List Item
item_isotopes table item = map (isotope_item item) (isotopes_of table item)

-- the counts of the isotopes of items without a label in a text behind earlier counts, if nothing stands behind them
abbrev pub counts_after : TableEntries → List (Item × ℕ) → List ℕ → List ℕ → Option (List ℕ)
counts_after table [] earlier text = if length text == 0 then Some earlier else None
counts_after table (part ∷ parts) earlier text =
    option_and_then (λ p. counts_after table parts p.0 p.1)
    (element_counts (item_isotopes table part.0) part.1 earlier text)

-- the counts of the isotopologue of a formula that has this text, none where no isotopologue has it
unfoldable pub counts_of_text : TableEntries → List (Item × ℕ) → List ℕ → Option (List ℕ)
counts_of_text table formula text =
    if list_any (λ p. is_plain p.0) formula then counts_after table (plain_items formula) [] text
    else (if bytes_eq text dash then Some [] else None)
