-- What is gathered from records one after another is what all their rows say together.
use Rattle.std.proofs.Common.{◌≡◌, ℕ, ◌+◌, drop, Bool, true, false, List, [], ◌∷◌, ◌++◌, Option, Some, None, Result, Ok}
use Rattle.std.proofs.Common.{Err, refl, sym, ap, ◌∙◌, true≢false, arith}
use Rattle.reader_answers.specs.Answers.{◌>>=◌}
use Rattle.element_table.specs.SymbolText.{is_symbol}
use Rattle.reader_answers.specs.RecordRows.{rows_after}
use Rattle.element_table.specs.TableRows.{Row, is_electron, fault_after, table_of_rows}
use Rattle.element_table.specs.TableText.{abundance_decimals, table_of_records, row_of}
use Rattle.element_table.specs.Gathering.{nothing_gathered, gather_from, fault_in}
use Rattle.element_table.specs.declared.fault.TableFault.{TableFault}
use Rattle.element_table.proofs.RowsOfSymbols.{IsRow, AreRows}
use Rattle.element_table.proofs.GatheredRows.{gathered_of, gathered_of-push}
use Rattle.element_table.proofs.FaultAfterRows.{fault_after-gathered, fault_after-new}
use Rattle.element_table.proofs.RowRanges.{numbers_of-within, row_of-electron, row_of-isotope, row_of-no_symbol}

-- the row of a record has the electron's numbers where it has the electron's symbol
row_of-IsRow : (decimals record_number : ℕ) (fields : List (List ℕ)) (row : Row)
    → row_of decimals record_number fields ≡ Ok row → IsRow row
unfolding row_of
row_of-IsRow decimals record_number (symbol ∷ number ∷ mass ∷ abundance ∷ valence ∷ []) row is =
    by (is_electron symbol) refl (is_symbol symbol) refl
  where
    by : (b : Bool) → is_electron symbol ≡ b → (c : Bool) → is_symbol symbol ≡ c → IsRow row
    by true electron c _ =
        let read = sym (row_of-electron decimals record_number symbol number mass abundance valence electron) ∙ is in
        let within = numbers_of-within _ _ _ _ _ _ _ _ row read in
        record {
          electron_number = λ _. omega (arith, within.number_to);
          electron_valence = λ _. omega
              (arith, within.valence_to);
        }
    by false other true there =
        let read = sym (row_of-isotope decimals record_number symbol number mass abundance valence other there) ∙ is in
        let within = numbers_of-within _ _ _ _ _ _ _ _ row read in
        let never : is_electron row.symbol ≡ true → ⊥ =
        λ electron. true≢false (sym electron ∙ ap is_electron within.symbol_is ∙ other) in
        record {
          electron_number = λ electron. absurd (never electron);
          electron_valence = λ electron. absurd
              (never electron);
        }
    by false other false none =
        let read = sym (row_of-no_symbol decimals record_number symbol number mass abundance valence other none) ∙ is in
        cc
row_of-IsRow decimals record_number fields row is = cc

AreRows-push : (rows : List Row) (row : Row) → AreRows rows → IsRow row → AreRows (rows ++ row ∷ [])
AreRows-push [] row are is = (is, tt)
AreRows-push (x ∷ rows) row are is = (are.0, AreRows-push rows row are.1 is)

-- from any record_number on
pub gather_from-rows_after : (decimals record_number : ℕ) (rows : List Row) (records : List (List (List ℕ)))
    → AreRows rows
    → gather_from decimals record_number (gathered_of rows) records
    ≡ (rows_after (row_of decimals) fault_after record_number rows records >>= table_of_rows)
gather_from-rows_after decimals record_number rows [] are = refl
gather_from-rows_after decimals record_number rows (fields ∷ records) are =
    by (row_of decimals record_number fields) refl
    (λ row is. gather_from-rows_after decimals (record_number + 1) (rows ++ row ∷ []) records
    (AreRows-push rows row are is))
  where
    step : (row : Row) → row_of decimals record_number fields ≡ Ok row → IsRow row → (o : Option TableFault)
        → fault_after record_number rows row ≡ o
        → gather_from decimals (record_number + 1) (gathered_of (rows ++ row ∷ [])) records
        ≡ (rows_after (row_of decimals) fault_after (record_number + 1) (rows ++ row ∷ []) records >>= table_of_rows)
        → gather_from decimals record_number (gathered_of rows) (fields ∷ records)
        ≡ (rows_after (row_of decimals) fault_after record_number rows (fields ∷ records) >>= table_of_rows)
    step row read is None none next =
        let in_none : fault_in record_number (gathered_of rows) row ≡ None =
        sym (fault_after-gathered rows row record_number is are) ∙ none in
        rw (read, in_none, none) (ap (λ g. gather_from decimals (record_number + 1) g records)
        (sym (gathered_of-push rows row record_number (fault_after-new rows row record_number none) in_none)) ∙ next)
    step row read is (Some f) some next =
        let in_some : fault_in record_number (gathered_of rows) row ≡ Some f =
        sym (fault_after-gathered rows row record_number is are) ∙ some in
        rw (read, in_some, some) refl

    by : (r : Result Row TableFault) → row_of decimals record_number fields ≡ r
        → ((row : Row) → IsRow row → gather_from decimals (record_number + 1) (gathered_of (rows ++ row ∷ [])) records
        ≡ (rows_after (row_of decimals) fault_after (record_number + 1) (rows ++ row ∷ []) records >>= table_of_rows))
        → gather_from decimals record_number (gathered_of rows) (fields ∷ records)
        ≡ (rows_after (row_of decimals) fault_after record_number rows (fields ∷ records) >>= table_of_rows)
    by (Err f) read next = rw read refl
    by (Ok row) read next =
        let is = row_of-IsRow decimals record_number fields row read in
        step row read is (fault_after record_number rows row) refl (next row is)

-- the table of records that begin with a header
pub table_of_records-rows : (records : List (List (List ℕ))) (decimals : ℕ) → abundance_decimals records ≡ Some decimals
    → table_of_records records ≡ gather_from decimals 2 nothing_gathered (drop 1 records)
table_of_records-rows records decimals is = rw is (sym (gather_from-rows_after decimals 2 [] (drop 1 records) tt))
