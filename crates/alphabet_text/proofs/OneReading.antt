-- alphabet_of is the one answer that AlphabetReading allows.
use Rattle.std.proofs.Common.{◌≡◌, ℕ, ◌<◌, List, [], ◌∷◌, ◌++◌, length, take, refl, sym, ap, subst, ◌∙◌, arith, inl}
use Rattle.std.proofs.Common.{inr}
use Rattle.std.specs.Prelude.{Some, None, Result, Ok, Err, slice_get}
use Rattle.std.proofs.lemmas.List.Elements.{All-from_recursion}
use Rattle.element_table.specs.Elements.{TableEntries}
use Rattle.reader_answers.specs.BadPlaces.{Begins, IsBadPlace}
use Rattle.reader_answers.proofs.BadPlaceLaws.{one-bad-place, bad-place-no-text}
use Rattle.written_items.specs.WrittenRows.{WrittenPart, IsPart, IsRowOf, IsRow}
use Rattle.written_items.specs.RowReading.{row_of}
use Rattle.written_items.proofs.RowLaws.{row_of-empty, row_of-written, row_of-Ok, row_of-Err}
use Rattle.alphabet_text.specs.declared.entries.AlphabetEntry.{AlphabetEntry}
use Rattle.alphabet_text.specs.declared.fault.AlphabetFault.{AlphabetFault}
use Rattle.alphabet_text.specs.declared.fault.AlphabetFault.TheVariants.{BadText, UnknownSymbol, Repeated, EmptyRange}
use Rattle.alphabet_text.specs.declared.fault.AlphabetFault.TheVariants.{TooMany, Memory}
use Rattle.alphabet_text.specs.AlphabetTexts.{IsRangeTail, IsAlphabetRow, IsAlphabetText}
use Rattle.alphabet_text.specs.AlphabetReadings.{AlphabetReading, IsGrammarFault, row_faults, alphabet_in}
use Rattle.alphabet_text.specs.AlphabetAnswers.{range_tail, unless_faults, row_answer, alphabet_of}
use Rattle.alphabet_text.proofs.RangeTails.{ranges-read}

-- the symbol A, an alphabet of one entry
one_symbol : WrittenPart
one_symbol = record { item = record { symbol = 65 ∷ []; digits = None }; tail = [] }

one_entry : IsAlphabetText (65 ∷ [])
unfolding one_symbol
one_entry =
    let part : IsPart IsRangeTail one_symbol = record { item = record { symbol = refl; digits = tt }; tail = tt } in (
      one_symbol ∷ [],
      record {
        some = omega arith;
        is = record { parts = All-from_recursion (IsPart IsRangeTail) (one_symbol ∷ []) (part, tt); spelled = refl };
      },
    )

begun : (bytes : List ℕ) → Begins (IsRow IsRangeTail) bytes → Begins IsAlphabetText bytes
begun bytes goes = by goes.1.row goes.1.is
  where
    empty : (bytes : List ℕ) → bytes ++ goes.0 ≡ [] → Begins IsAlphabetText bytes
    empty [] e = (65 ∷ [], one_entry)
    empty (b ∷ more) e = cc

    by : (row : List WrittenPart) → IsRowOf IsRangeTail row (bytes ++ goes.0) → Begins IsAlphabetText bytes
    by [] is = empty bytes is.spelled
    by (part ∷ row) is = (goes.0, (part ∷ row, record { some = omega arith; is = is }))

row_begun : (bytes : List ℕ) → Begins IsAlphabetText bytes → Begins (IsRow IsRangeTail) bytes
row_begun bytes goes = (goes.0, record { row = goes.1.0; is = goes.1.1.is })

-- a text is bad as an alphabet where it is bad as a row
bad_row : (text : List ℕ) (place : ℕ) → IsBadPlace (IsRow IsRangeTail) text place → IsBadPlace IsAlphabetText text place
bad_row text place bad =
    record {
      within = bad.within;
      before = begun (take place text) bad.before;
      at = λ within goes. bad.at within (row_begun _ goes);
      at_end = λ end is. bad.at_end end (record { row = is.0; is = is.1.is });
    }

same_row : (row other : List WrittenPart) (r : Result (List WrittenPart) ℕ) → r ≡ Ok row → r ≡ Ok other → row ≡ other
same_row row other r a b = cc

-- the empty text is none
not_empty : IsAlphabetText [] → ⊥
not_empty is =
    let row : List WrittenPart = is.0 in
    let read : row_of range_tail [] ≡ Ok row = row_of-written IsRangeTail range_tail ranges-read row [] is.1.is in
    let none : [] ≡ row = same_row [] row (row_of range_tail []) (row_of-empty range_tail) read in
    let some = is.1.some in
    absurd (omega (arith, ap length none, some))

bad_empty : IsBadPlace IsAlphabetText [] 0
bad_empty =
    record {
      within = omega arith;
      before = (65 ∷ [], one_entry);
      at = λ within. absurd (omega arith);
      at_end = λ _ is. not_empty is;
    }

pub meaning : (table : TableEntries) (text : List ℕ) → AlphabetReading table text (alphabet_of table text)
meaning table text = by (row_of range_tail text) refl
  where
    of_row : (row : List WrittenPart) → IsAlphabetRow row text → (faults : List AlphabetFault)
        → row_faults table row ≡ faults
        → AlphabetReading table text (unless_faults faults (alphabet_in table row))
    of_row row is [] e = (row, is, e, refl)
    of_row row is (fault ∷ faults) e = inr (row, is, ap (λ l. slice_get l 0) e)

    by : (r : Result (List WrittenPart) ℕ) → row_of range_tail text ≡ r
        → AlphabetReading table text (row_answer table r)
    by (Err place) e = inl (bad_row text place (row_of-Err IsRangeTail range_tail ranges-read text place e))
    by (Ok []) e =
        let is = row_of-Ok IsRangeTail range_tail ranges-read text [] e in
        inl (subst (λ t. IsBadPlace IsAlphabetText t 0) (sym is.spelled) bad_empty)
    by (Ok (part ∷ row)) e =
        of_row (part ∷ row)
        (record { some = omega arith; is = row_of-Ok IsRangeTail range_tail ranges-read text (part ∷ row) e })
        (row_faults table (part ∷ row)) refl

-- the answer for a text that is a row
row-read : (table : TableEntries) (text : List ℕ) (row : List WrittenPart) → IsAlphabetRow row text
    → alphabet_of table text ≡ unless_faults (row_faults table row) (alphabet_in table row)
row-read table text row is =
    ap (row_answer table) (row_of-written IsRangeTail range_tail ranges-read row text is.is) ∙ some row is.some
  where
    some : (row : List WrittenPart) → 0 < length row
        → row_answer table (Ok row) ≡ unless_faults (row_faults table row) (alphabet_in table row)
    some [] h = absurd (omega arith)
    some (part ∷ row) h = refl

first_answers : (faults : List AlphabetFault) (alphabet : List AlphabetEntry) (fault : AlphabetFault)
    → slice_get faults 0 ≡ Some fault
    → unless_faults faults alphabet ≡ Err fault
first_answers [] alphabet fault e = cc
first_answers (first ∷ faults) alphabet fault e = let same : first ≡ fault = cc in ap Err same

-- the answer for a text that is none of the grammar
bad-read : (table : TableEntries) (text : List ℕ) (place : ℕ) → IsBadPlace IsAlphabetText text place
    → Err (BadText place) ≡ alphabet_of table text
bad-read table text place bad = by (row_of range_tail text) refl
  where
    at : (other : ℕ) → IsBadPlace IsAlphabetText text other
        → ◌≡◌ {A = Result (List AlphabetEntry) AlphabetFault} (Err (BadText place)) (Err (BadText other))
    at other its = ap (λ p. Err (BadText p)) (one-bad-place IsAlphabetText text place other bad its)

    by : (r : Result (List WrittenPart) ℕ) → row_of range_tail text ≡ r → Err (BadText place) ≡ row_answer table r
    by (Err other) e = at other (bad_row text other (row_of-Err IsRangeTail range_tail ranges-read text other e))
    by (Ok []) e =
        let is = row_of-Ok IsRangeTail range_tail ranges-read text [] e in
        at 0 (subst (λ t. IsBadPlace IsAlphabetText t 0) (sym is.spelled) bad_empty)
    by (Ok (part ∷ row)) e =
        let is : IsAlphabetRow (part ∷ row) text =
        record { some = omega arith; is = row_of-Ok IsRangeTail range_tail ranges-read text (part ∷ row) e } in
        absurd (bad-place-no-text IsAlphabetText text place bad (part ∷ row, is))

grammar-read : (table : TableEntries) (text : List ℕ) (fault : AlphabetFault) → IsGrammarFault text fault
    → Err fault ≡ alphabet_of table text
grammar-read table text (BadText place) bad = bad-read table text place bad
grammar-read table text (UnknownSymbol place) bad = absurd bad
grammar-read table text (Repeated place) bad = absurd bad
grammar-read table text (EmptyRange place) bad = absurd bad
grammar-read table text TooMany bad = absurd bad
grammar-read table text Memory bad = absurd bad

pub only : (table : TableEntries) (text : List ℕ) (answer : Result (List AlphabetEntry) AlphabetFault)
    → AlphabetReading table text answer → answer ≡ alphabet_of table text
only table text (Ok alphabet) h =
    ap Ok h.3 ∙ ap (λ faults. unless_faults faults (alphabet_in table h.0)) (sym h.2)
    ∙ sym (row-read table text h.0 h.1)
only table text (Err fault) h = elim h [
  | inl bad ↦ grammar-read table text fault bad
  | inr row ↦
      sym (first_answers (row_faults table row.0) (alphabet_in table row.0) fault row.2)
      ∙ sym (row-read table text row.0 row.1)
]
