-- What the readers of a text keep of a row of entries: places, and numbers up to a cap. Proofs use it.
use Rattle.std.specs.Prelude.{ℕ, ◌+◌, Bool, nat_lt, min, List, [], ◌∷◌, ◌++◌, length, if◌then◌else◌}
use Rattle.std.specs.Prelude.{Option, Some, None, Result, Ok, Err, Vec, unwrap_or}
use Rattle.std.specs.List.{list_any}
use Rattle.std.specs.Option.{option_or}
use Rattle.fixed_decimal.specs.Decimal.{leading_digits}
use Rattle.decompose.specs.declared.limits.Limit.{Limit}
use Rattle.element_table.specs.declared.element.Isotope.{Isotope}
use Rattle.decompose.specs.declared.limits.TheConstants.{MAX_COUNT}
use Rattle.element_table.specs.Elements.{TableEntries, ElementEntry, element_of, isotope_of, reference_isotope}
use Rattle.reader_answers.specs.Answers.{◌>>=◌}
use Rattle.written_items.specs.declared.item.Item.{Item}
use Rattle.written_items.specs.declared.item.LeadingItem.{LeadingItem}
use Rattle.written_items.specs.Items.{item_eq}
use Rattle.written_items.specs.WrittenItems.{item_value, written_text}
use Rattle.written_items.specs.WrittenRows.{WrittenPart, part_text}
use Rattle.alphabet_text.specs.declared.entries.AlphabetEntry.{AlphabetEntry}
use Rattle.alphabet_text.specs.declared.fault.AlphabetFault.{AlphabetFault}
use Rattle.alphabet_text.specs.declared.fault.AlphabetFault.TheVariants as fault
use Rattle.alphabet_text.specs.declared.written.WrittenEntry.{WrittenEntry}
use Rattle.alphabet_text.specs.declared.written.WrittenRange.{WrittenRange}
use Rattle.alphabet_text.specs.AlphabetTexts.{limit_of_tail}

-- a limit, of which a number above 10,000 is told as 10,001
abbrev pub limit_value : Limit → Limit
limit_value limit = record { low = min limit.low (MAX_COUNT + 1); high = min limit.high (MAX_COUNT + 1) }

-- the place of the first limit above 10,000, of limits at these places
abbrev pub high_place : Limit → ℕ → ℕ → Option ℕ
high_place limit low_at high_at =
    if nat_lt MAX_COUNT limit.low then Some low_at else (if nat_lt MAX_COUNT limit.high then Some high_at else None)

-- what is kept of a tail at a place
abbrev pub range_value : ℕ → List ℕ → WrittenRange
range_value at tail =
    record {
      limit = limit_value (limit_of_tail tail);
      high_place = high_place (limit_value (limit_of_tail tail)) at (at + length (leading_digits tail) + 1);
      byte_count = length tail;
    }

-- what is kept of an entry at a place
abbrev pub entry_value : ℕ → WrittenPart → WrittenEntry
entry_value at part =
    record {
      at = at;
      item = item_value part.item;
      range = range_value (at + length (written_text part.item)) part.tail;
    }

-- the same of a row
abbrev pub entry_values : ℕ → List WrittenPart → List WrittenEntry
entry_values at [] = []
entry_values at (part ∷ row) = entry_value at part ∷ entry_values (at + length (part_text part)) row

-- what reading a range, an entry or a row at a place answers
abbrev pub range_at : ℕ → Result (List ℕ) ℕ → Result WrittenRange AlphabetFault
range_at at (Ok tail) = Ok (range_value at tail)
range_at at (Err place) = Err (fault.BadText (at + place))

abbrev pub entry_at : ℕ → Result WrittenPart ℕ → Result WrittenEntry AlphabetFault
entry_at at (Ok part) = Ok (entry_value at part)
entry_at at (Err place) = Err (fault.BadText (at + place))

abbrev pub entries_at : ℕ → Result (List WrittenPart) ℕ → Result (List WrittenEntry) AlphabetFault
entries_at at (Ok row) = Ok (entry_values at row)
entries_at at (Err place) = Err (fault.BadText (at + place))

-- an answer whose value is a vector, seen as the list of its elements
abbrev pub answer_items : {X Z : Type 0} → Result (Vec X Z) AlphabetFault → Result (List X) AlphabetFault
answer_items (Ok v) = Ok v.items
answer_items (Err fault) = Err fault

-- the place of the first limit above 10,000 of several entries
abbrev pub first_high_place : List WrittenEntry → Option ℕ
first_high_place [] = None
first_high_place (entry ∷ entries) = option_or entry.range.high_place (first_high_place entries)

-- of an element the isotope of this number, or its reference isotope where no number is told
abbrev pub isotope_with : ElementEntry → Option ℕ → Option Isotope
isotope_with element None = Some (reference_isotope element)
isotope_with element (Some number) = isotope_of element.isotopes number

abbrev pub isotope_or_none : Option ElementEntry → Option ℕ → Option Isotope
isotope_or_none None number = None
isotope_or_none (Some element) number = isotope_with element number

-- the isotope of the atoms of an item that a reader tells
abbrev pub leading_isotope : TableEntries → LeadingItem → Option Isotope
leading_isotope table item = isotope_or_none (element_of table item.symbol) item.number

abbrev pub entry_with : Item → Limit → Option Isotope → Option AlphabetEntry
entry_with item limit None = None
entry_with item limit (Some isotope) = Some (record { item = item; mass = isotope.mass; limit = limit })

-- the entry of an item that the table has
abbrev pub table_entry : TableEntries → WrittenEntry → Option AlphabetEntry
table_entry table written =
    entry_with (record { symbol = written.item.symbol; label = unwrap_or written.item.number 0 }) written.range.limit
    (leading_isotope table written.item)

-- whether an item stands among entries
abbrev pub has_item : List AlphabetEntry → Item → Bool
has_item entries item = list_any (λ e. item_eq e.item item) entries

-- an entry at a place behind these, or its first fault
abbrev pub sound_entry : List AlphabetEntry → ℕ → Option AlphabetEntry → Result AlphabetEntry AlphabetFault
sound_entry earlier at None = Err (fault.UnknownSymbol at)
sound_entry earlier at (Some entry) =
    if has_item earlier entry.item then Err (fault.Repeated at)
    else (if nat_lt entry.limit.high entry.limit.low then Err (fault.EmptyRange at) else Ok entry)

-- an entry as it is written behind these
abbrev pub entry_behind : TableEntries → List AlphabetEntry → WrittenEntry → Result AlphabetEntry AlphabetFault
entry_behind table earlier written = sound_entry earlier written.at (table_entry table written)

-- these entries and those that are written behind them, or the first fault
abbrev pub entries_behind : TableEntries → List AlphabetEntry → List WrittenEntry
    → Result (List AlphabetEntry) AlphabetFault
entries_behind table earlier [] = Ok earlier
entries_behind table earlier (written ∷ entries) =
    entry_behind table earlier written >>= λ entry. entries_behind table (earlier ++ entry ∷ []) entries
