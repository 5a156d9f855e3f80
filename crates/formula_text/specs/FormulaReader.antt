-- What a reader of formula texts computes: the one answer that FormulaReading allows. Proofs use it, and the
-- layers above compute with it.
use Rattle.std.specs.Prelude.{ℕ, ◌+◌, ◌-◌, ◌^◌, min, nat_lt, ◌&&◌, List, [], ◌∷◌, length, is_some, if◌then◌else◌}
use Rattle.std.specs.Prelude.{Option, Some, None, Result, Ok, Err, unwrap_or}
use Rattle.std.specs.Option.{option_or}
use Rattle.reader_answers.specs.Answers.{unless_fault}
use Rattle.written_items.specs.declared.item.Item.{Item}
use Rattle.written_items.specs.declared.item.LeadingItem.{LeadingItem}
use Rattle.written_items.specs.declared.item.BadItem.{BadItem}
use Rattle.written_items.specs.WrittenItems.{WrittenItem, item_value}
use Rattle.written_items.specs.WrittenRows.{WrittenPart, part_text, count_of_tail}
use Rattle.written_items.specs.RowReading.{row_of, count_tail}
use Rattle.element_table.specs.Elements.{TableEntries, ElementEntry, element_of, isotope_of}
use Rattle.formula_text.specs.declared.fault.PartsFault.{PartsFault}
use Rattle.formula_text.specs.declared.fault.FormulaFault.{FormulaFault}
use Rattle.formula_text.specs.declared.fault.FormulaFault.TheVariants.{BadText, UnknownSymbol, UnknownIsotope, Empty}
use Rattle.formula_text.specs.declared.read.ReadPart.{ReadPart}
use Rattle.formula_text.specs.Formulas.{parts_of}
use Rattle.formula_text.specs.FormulaFaults.{fault_of}
use Rattle.formula_text.specs.FormulaTexts.{Answer, counts_of, has_written}

-- the sum of the items where it is a formula
abbrev pub formula_or_fault : Result (List (Item × ℕ)) PartsFault → Answer
formula_or_fault (Ok []) = Err Empty
formula_or_fault (Ok (p ∷ ps)) = Ok (p ∷ ps)
formula_or_fault (Err e) = Err (fault_of e)

-- the fault of an item at a place that the table doesn't have
abbrev pub item_fault : TableEntries → ℕ → WrittenItem → Option FormulaFault
item_fault table at item =
    if is_some (element_of table item.symbol) then (if has_written table item then None else Some (UnknownIsotope at))
    else Some (UnknownSymbol at)

-- the fault of the first item of a row, which begins at a place, that the table doesn't have
abbrev pub row_fault : TableEntries → ℕ → List WrittenPart → Option FormulaFault
row_fault table at [] = None
row_fault table at (part ∷ row) =
    option_or (item_fault table at part.item) (row_fault table (at + length (part_text part)) row)

-- the answer to a row, or to the place of bad text
abbrev pub row_answer : TableEntries → Result (List WrittenPart) ℕ → Answer
row_answer table (Err place) = Err (BadText place)
row_answer table (Ok row) = unless_fault (row_fault table 0 row) (formula_or_fault (parts_of (counts_of row)))

-- the formula of a text, or its first fault
unfoldable pub read_of : TableEntries → List ℕ → Answer
read_of table text = row_answer table (row_of count_tail text)

-- a count as a number of 32 bits, the largest for a greater one
abbrev pub capped_part : Item × ℕ → Item × ℕ
capped_part p = (p.0, min p.1 (2 ^ 32 - 1))

-- what is kept of a part of a row at a place
abbrev pub part_value : ℕ → WrittenPart → ReadPart
part_value at part =
    record { at = at; item = item_value part.item; count = min (count_of_tail part.tail) (2 ^ 32 - 1) }

abbrev pub row_values : ℕ → List WrittenPart → List ReadPart
row_values at [] = []
row_values at (part ∷ row) = part_value at part ∷ row_values (at + length (part_text part)) row

-- what is kept of a row that begins at a place, or where its text is bad
abbrev pub values_or_fault : ℕ → Result (List WrittenPart) ℕ → Result (List ReadPart) FormulaFault
values_or_fault at (Ok row) = Ok (row_values at row)
values_or_fault at (Err place) = Err (BadText (at + place))

-- the item that is kept
abbrev pub value_item : LeadingItem → Item
value_item item = record { symbol = item.symbol; label = unwrap_or item.number 0 }

-- the same fault of what is kept of an item
abbrev pub number_fault : ℕ → ElementEntry → Option ℕ → Option FormulaFault
number_fault at element None = None
number_fault at element (Some number) =
    if nat_lt 0 number && is_some (isotope_of element.isotopes number) then None else Some (UnknownIsotope at)

abbrev pub value_fault_if : ℕ → Option ElementEntry → Option ℕ → Option FormulaFault
value_fault_if at None number = Some (UnknownSymbol at)
value_fault_if at (Some element) number = number_fault at element number

abbrev pub value_fault : TableEntries → ReadPart → Option FormulaFault
value_fault table part = value_fault_if part.at (element_of table part.item.symbol) part.item.number

-- of the first of several
abbrev pub values_fault : TableEntries → List ReadPart → Option FormulaFault
values_fault table [] = None
values_fault table (part ∷ parts) = option_or (value_fault table part) (values_fault table parts)

-- the item that is kept, with its count
abbrev pub value_part : ReadPart → Item × ℕ
value_part part = (value_item part.item, part.count)

-- the count of a tail as a number of 32 bits, the largest for a greater one
abbrev pub count_value : List ℕ → ℕ
count_value tail = min (count_of_tail tail) (2 ^ 32 - 1)

-- a part that a text begins with, as it is told: the item, its count, and how many bytes both take
abbrev pub part_answer : Result WrittenPart ℕ → Result (LeadingItem × ℕ × ℕ) BadItem
part_answer (Ok part) = Ok (item_value part.item, count_value part.tail, length (part_text part))
part_answer (Err place) = Err (record { at = place })
