-- What an alphabet's text is read as with a table: the alphabet, or the first fault.
use Rattle.std.specs.Prelude.{ℕ, ◌+◌, ◌≡◌, ◌⊎◌, nat_lt, List, [], ◌∷◌, ◌++◌, length, map, slice_get}
use Rattle.std.specs.Prelude.{if◌then◌else◌, Some, Result, Ok, Err}
use Rattle.std.specs.List.{list_any}
use Rattle.decompose.specs.declared.limits.TheConstants.{MAX_COUNT}
use Rattle.element_table.specs.Elements.{TableEntries}
use Rattle.fixed_decimal.specs.Decimal.{leading_digits}
use Rattle.reader_answers.specs.BadPlaces.{IsBadPlace}
use Rattle.sorted_lists.specs.SortedLists.{sorted_by}
use Rattle.written_items.specs.Items.{item_eq}
use Rattle.written_items.specs.WrittenItems.{item_of, written_text}
use Rattle.written_items.specs.WrittenRows.{WrittenPart, part_text}
use Rattle.alphabet_text.specs.declared.entries.AlphabetEntry.{AlphabetEntry}
use Rattle.alphabet_text.specs.declared.fault.AlphabetFault.{AlphabetFault}
use Rattle.alphabet_text.specs.declared.fault.AlphabetFault.TheVariants as fault
use Rattle.alphabet_text.specs.AlphabetTexts.{IsAlphabetText, IsAlphabetRow, limit_of_tail}
use Rattle.alphabet_text.specs.Alphabets.{stands_before}
use Rattle.formula_text.specs.FormulaTexts.{has_written}
use Rattle.formula_text.specs.Masses.{item_mass}
use Rattle.alphabet_text.specs.declared.entries.TheConstants.{MAX_ENTRIES}

-- the entry that is written: the item, its mass and its limits
abbrev pub entry_of : TableEntries → WrittenPart → AlphabetEntry
entry_of table part =
    record {
      item = item_of part.item;
      mass = item_mass table (item_of part.item);
      limit = limit_of_tail part.tail;
    }

-- the places of the first digits of limits above 10,000, of a tail at a place
abbrev pub high_places_of : ℕ → List ℕ → List ℕ
high_places_of at tail =
    (if nat_lt MAX_COUNT (limit_of_tail tail).low then at ∷ [] else [])
    ++ (if nat_lt MAX_COUNT (limit_of_tail tail).high then (at + length (leading_digits tail) + 1) ∷ [] else [])

-- the same of a row at a place
abbrev pub high_places : ℕ → List WrittenPart → List ℕ
high_places at [] = []
high_places at (part ∷ row) =
    high_places_of (at + length (written_text part.item)) part.tail ++ high_places (at + length (part_text part)) row

-- the faults of an entry at a place, where these entries stand before it: it is unknown, its item is repeated, its
-- range is empty
abbrev pub entry_faults : TableEntries → List WrittenPart → ℕ → WrittenPart → List AlphabetFault
entry_faults table earlier at part =
    (if has_written table part.item then [] else fault.UnknownSymbol at ∷ [])
    ++ (if list_any (λ other. item_eq (item_of other.item)
    (item_of part.item)) earlier then fault.Repeated at ∷ [] else [])
    ++ (if nat_lt (limit_of_tail part.tail).high (limit_of_tail part.tail).low then fault.EmptyRange at ∷ [] else [])

-- the faults of a row of entries at a place, where these entries stand before it
abbrev pub faults_behind : TableEntries → List WrittenPart → ℕ → List WrittenPart → List AlphabetFault
faults_behind table earlier at [] = []
faults_behind table earlier at (part ∷ row) =
    entry_faults table earlier at part ++ faults_behind table (earlier ++ part ∷ []) (at + length (part_text part)) row

-- all faults of a text of the grammar that is this row, in their order: limits above 10,000, the faults of its
-- entries, too many entries
abbrev pub row_faults : TableEntries → List WrittenPart → List AlphabetFault
row_faults table row =
    map fault.BadText (high_places 0 row) ++ faults_behind table [] 0 row
    ++ (if nat_lt MAX_ENTRIES (length row) then fault.TooMany ∷ [] else [])

-- the alphabet of a row without fault
abbrev pub alphabet_in : TableEntries → List WrittenPart → List AlphabetEntry
alphabet_in table row = sorted_by stands_before (map (entry_of table) row)

-- the text is none of the grammar, and bad at the place that the fault tells
abbrev pub IsGrammarFault : List ℕ → AlphabetFault → Type 0
IsGrammarFault text (fault.BadText place) = IsBadPlace IsAlphabetText text place
IsGrammarFault text other = ⊥

-- What reading a text with a table answers: of a row of entries without fault their alphabet; else the place where
-- the text stops being one of the grammar, or the first fault of the row.
abbrev pub AlphabetReading : TableEntries → List ℕ → Result (List AlphabetEntry) AlphabetFault → Type 0
AlphabetReading table text (Ok alphabet) = (row : List WrittenPart) × IsAlphabetRow row text
    × (row_faults table row ≡ []) × (alphabet ≡ alphabet_in table row)
AlphabetReading table text (Err fault) = IsGrammarFault text fault
    ⊎ ((row : List WrittenPart) × IsAlphabetRow row text × (slice_get (row_faults table row) 0 ≡ Some fault))
