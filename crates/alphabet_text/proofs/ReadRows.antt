-- How the entries of a text are read one after another.
use Rattle.std.proofs.Common.{◌≡◌, ℕ, ◌+◌, ◌<◌, ◌≤◌, List, [], ◌∷◌, ◌++◌, length, drop, refl, sym, ap, ◌∙◌}
use Rattle.std.proofs.Common.{arith}
use Rattle.std.proofs.Common.{append_assoc, append-nil, length-append, drop-drop, length-drop, drop_of_length-le}
use Rattle.std.specs.Prelude.{Result, Ok, Err}
use Rattle.written_items.specs.WrittenItems.{written_text}
use Rattle.written_items.specs.WrittenRows.{WrittenPart, part_text}
use Rattle.written_items.specs.RowReading.{leading_part, row_with, row_of}
use Rattle.written_items.proofs.RowLaws.{row_of-next, row_of-empty}
use Rattle.alphabet_text.specs.declared.fault.AlphabetFault.{AlphabetFault}
use Rattle.alphabet_text.specs.declared.fault.AlphabetFault.TheVariants.{BadText}
use Rattle.alphabet_text.specs.declared.written.WrittenEntry.{WrittenEntry}
use Rattle.alphabet_text.specs.AlphabetTexts.{IsRangeTail}
use Rattle.alphabet_text.specs.AlphabetAnswers.{range_tail}
use Rattle.alphabet_text.specs.WrittenEntries.{entry_value, entry_at, entries_at}
use Rattle.alphabet_text.proofs.RangeTails.{ranges-read}

-- entries before those that are read
abbrev pub with_front : List WrittenEntry → Result (List WrittenEntry) AlphabetFault
    → Result (List WrittenEntry) AlphabetFault
with_front front (Ok entries) = Ok (front ++ entries)
with_front front (Err fault) = Err fault

with_front-append : (front more : List WrittenEntry) (r : Result (List WrittenEntry) AlphabetFault)
    → with_front front (with_front more r) ≡ with_front (front ++ more) r
with_front-append front more (Ok entries) = ap Ok (sym (append_assoc front more entries))
with_front-append front more (Err fault) = refl

-- how many bytes an entry takes
abbrev pub byte_count : WrittenEntry → ℕ
byte_count entry = entry.item.byte_count + entry.range.byte_count

-- ---- one entry

same_entry_fault : (fault other : AlphabetFault) → ◌≡◌ {A = Result WrittenEntry AlphabetFault} (Err fault) (Err other)
    → fault ≡ other
same_entry_fault fault other e = cc

-- ---- the entries of a text

abbrev row_or : List ℕ → Result WrittenPart ℕ → Result (List WrittenPart) ℕ
row_or text (Ok part) = row_with part (row_of range_tail (drop (length (part_text part)) text))
row_or text (Err place) = Err place

entries_at-with : (at : ℕ) (part : WrittenPart) (r : Result (List WrittenPart) ℕ)
    → entries_at at (row_with part r)
    ≡ with_front (entry_value at part ∷ []) (entries_at (at + length (part_text part)) r)
entries_at-with at part (Ok row) = refl
entries_at-with at part (Err place) = ap (λ p. Err (BadText p)) (omega arith)

pub one-more : (at : ℕ) (text : List ℕ) (entry : WrittenEntry) → 0 < length text
    → Ok entry ≡ entry_at at (leading_part range_tail text)
    → entries_at at (row_of range_tail text)
    ≡ with_front (entry ∷ []) (entries_at (at + byte_count entry) (row_of range_tail (drop (byte_count entry) text)))
one-more at text entry some read =
    ap (entries_at at) (row_of-next IsRangeTail range_tail ranges-read text some)
    ∙ by (leading_part range_tail text) read
  where
    by : (r : Result WrittenPart ℕ) → Ok entry ≡ entry_at at r
        → entries_at at (row_or text r)
        ≡ with_front (entry ∷ []) (entries_at (at + byte_count entry)
        (row_of range_tail (drop (byte_count entry) text)))
    by (Err place) e = cc
    by (Ok part) e =
        let same : entry ≡ entry_value at part = cc in
        let count : length (part_text part) ≡ byte_count entry =
        length-append (written_text part.item) part.tail ∙ sym (ap byte_count same) in
        entries_at-with at part (row_of range_tail (drop (length (part_text part)) text))
        ∙ ap (λ e. with_front (e ∷ []) (entries_at (at + length (part_text part))
        (row_of range_tail (drop (length (part_text part)) text)))) (sym same)
        ∙ ap (λ n. with_front (entry ∷ []) (entries_at (at + n) (row_of range_tail (drop n text)))) count

pub no-more : (at : ℕ) (text : List ℕ) (fault : AlphabetFault) → 0 < length text
    → Err fault ≡ entry_at at (leading_part range_tail text) → entries_at at (row_of range_tail text) ≡ Err fault
no-more at text fault some read =
    ap (entries_at at) (row_of-next IsRangeTail range_tail ranges-read text some)
    ∙ by (leading_part range_tail text) read
  where
    by : (r : Result WrittenPart ℕ) → Err fault ≡ entry_at at r → entries_at at (row_or text r) ≡ Err fault
    by (Err place) e = sym (ap Err (same_entry_fault fault (BadText (at + place)) e))
    by (Ok part) e = cc

pub some-left : (at : ℕ) (text : List ℕ) → at < length text → 0 < length (drop at text)
some-left at text within = grind (arith, length-drop)

-- the step of reading on behind the entries that were read
pub read-on : (text : List ℕ) (at : ℕ) (entries : List WrittenEntry) (entry : WrittenEntry) → at < length text
    → Ok entry ≡ entry_at at (leading_part range_tail (drop at text))
    → with_front entries (entries_at at (row_of range_tail (drop at text)))
    ≡ with_front (entries ++ entry ∷ [])
    (entries_at (at + byte_count entry) (row_of range_tail (drop (at + byte_count entry) text)))
read-on text at entries entry within read =
    ap (with_front entries) (one-more at (drop at text) entry (some-left at text within) read)
    ∙ with_front-append entries (entry ∷ [])
    (entries_at (at + byte_count entry) (row_of range_tail (drop (byte_count entry) (drop at text))))
    ∙ ap (λ t. with_front (entries ++ entry ∷ []) (entries_at (at + byte_count entry) (row_of range_tail t)))
    (drop-drop (byte_count entry) at text)

-- at the end of the text nothing is left to be read
pub read-end : (text : List ℕ) (at : ℕ) (entries : List WrittenEntry) → length text ≤ at
    → with_front entries (entries_at at (row_of range_tail (drop at text))) ≡ Ok entries
read-end text at entries past =
    ap (λ t. with_front entries (entries_at at (row_of range_tail t))) (drop_of_length-le text past)
    ∙ ap (λ r. with_front entries (entries_at at r)) (row_of-empty range_tail)
    ∙ ap Ok (append-nil entries)
