-- The one answer that AlphabetReading allows, computed from the text. Proofs use it, and the layers above compute
-- with it.
use Rattle.std.specs.Prelude.{ℕ, ◌+◌, ◌==◌, List, [], ◌∷◌, ◌++◌, length, drop, if◌then◌else◌, Result, Ok, Err}
use Rattle.element_table.specs.Elements.{TableEntries}
use Rattle.fixed_decimal.specs.Decimal.{leading_digits}
use Rattle.written_items.specs.WrittenItems.{begins}
use Rattle.written_items.specs.WrittenRows.{WrittenPart}
use Rattle.written_items.specs.RowReading.{TailReader, row_of}
use Rattle.alphabet_text.specs.declared.entries.AlphabetEntry.{AlphabetEntry}
use Rattle.alphabet_text.specs.declared.fault.AlphabetFault.{AlphabetFault}
use Rattle.alphabet_text.specs.declared.fault.AlphabetFault.TheVariants as fault
use Rattle.alphabet_text.specs.AlphabetTexts.{hyphen}
use Rattle.alphabet_text.specs.AlphabetReadings.{row_faults, alphabet_in}

-- the range whose digits of the upper limit are these, unless there are none
abbrev pub range_up_to : List ℕ → List ℕ → Result (List ℕ) ℕ
range_up_to low high = if length high == 0 then Err (length low + 1) else Ok (low ++ hyphen ∷ high)

-- the range whose digits of the lower limit are these and behind them this text
abbrev pub range_behind : List ℕ → List ℕ → Result (List ℕ) ℕ
range_behind low text =
    if begins (λ byte. byte == hyphen) text then range_up_to low (leading_digits (drop 1 text)) else Err (length low)

-- the range that a text begins with: nothing where it begins with no digit, or the place at which none can go on
abbrev pub range_tail : TailReader
range_tail text =
    if length (leading_digits text) == 0 then Ok []
    else range_behind (leading_digits text) (drop (length (leading_digits text)) text)

-- an answer unless there is a fault
abbrev pub unless_faults : List AlphabetFault → List AlphabetEntry → Result (List AlphabetEntry) AlphabetFault
unless_faults [] alphabet = Ok alphabet
unless_faults (first ∷ faults) alphabet = Err first

-- the answer for a row, or for the place of bad text
abbrev pub row_answer : TableEntries → Result (List WrittenPart) ℕ → Result (List AlphabetEntry) AlphabetFault
row_answer table (Ok []) = Err (fault.BadText 0)
row_answer table (Ok (part ∷ row)) = unless_faults (row_faults table (part ∷ row)) (alphabet_in table (part ∷ row))
row_answer table (Err place) = Err (fault.BadText place)

-- the alphabet of a text, or its first fault
abbrev pub alphabet_of : TableEntries → List ℕ → Result (List AlphabetEntry) AlphabetFault
alphabet_of table text = row_answer table (row_of range_tail text)
