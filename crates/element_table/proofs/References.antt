-- Each element of a table that is read has the reference isotope of its weights.
use Rattle.std.proofs.Common.{◌≡◌, ℕ, List, [], get_or, drop, Option, Some, None, Result, Ok, Err, IfOk, refl, sym, ap}
use Rattle.std.proofs.Common.{subst, arith, All}
use Rattle.std.proofs.lemmas.List.Elements.{All-map}
use Rattle.reader_answers.specs.Answers.{◌>>=◌, Gives, unless_fault}
use Rattle.element_table.specs.Elements.{ElementEntry, TableEntries, IsReference, IsTable, reference_place}
use Rattle.reader_answers.specs.RecordRows.{rows_after}
use Rattle.element_table.specs.TableRows.{Row, elements_of, electron_of, entry_of, fault_after, first_symbols}
use Rattle.element_table.specs.TableRows.{isotope_rows, table_from, table_of_rows, weight_fault}
use Rattle.element_table.specs.TableText.{abundance_decimals, row_of, table_of_records}
use Rattle.element_table.specs.TableFaults.{is_memory}
use Rattle.element_table.specs.declared.fault.TableFault.{TableFault}
use Rattle.element_table.specs.declared.fault.TableFault.TheVariants as fault
use Rattle.element_table.proofs.ReferencePlace.{reference_place-IsReference}

-- a table of elements has them
table_from-elements : (electron : Option ℕ) (elements : List ElementEntry) (t : TableEntries)
    → table_from electron elements ≡ Ok t → t.elements ≡ elements
table_from-elements None elements t is = cc
table_from-elements (Some mass) elements t is = by (weight_fault elements) is
  where
    by : (o : Option TableFault)
        → unless_fault o (Ok (record { electron = mass; elements = elements })) ≡ Ok t → t.elements ≡ elements
    by (Some e) read = cc
    by None read =
        let same : record { electron = mass; elements = elements } ≡ t = cc in
        ap (λ (u : TableEntries). u.elements) (sym same)

-- a table that is read is that of some rows
rows_of_table : (records : List (List (List ℕ))) (t : TableEntries) → table_of_records records ≡ Ok t
    → (rows : List Row) × (table_of_rows rows ≡ Ok t)
rows_of_table records t is = by (abundance_decimals records) refl
  where
    rows_by : (r : Result (List Row) TableFault) → (r >>= table_of_rows) ≡ Ok t
        → (rows : List Row) × (table_of_rows rows ≡ Ok t)
    rows_by (Ok rows) read = (rows, read)
    rows_by (Err f) read = cc

    by : (o : Option ℕ) → abundance_decimals records ≡ o → (rows : List Row) × (table_of_rows rows ≡ Ok t)
    by None none = (let read : Err (fault.Header 1) ≡ Ok t = rw none at is in cc)
    by (Some decimals) some = rows_by (rows_after (row_of decimals) fault_after 2 [] (drop 1 records)) (rw some at is)

-- the elements of rows have the reference place of their isotopes
elements_of-references : (rows : List Row) → All (λ e. e.reference ≡ reference_place e.isotopes) (elements_of rows)
elements_of-references rows =
    All-map (λ (e : ElementEntry). e.reference
    ≡ reference_place e.isotopes) (entry_of rows) (first_symbols (isotope_rows rows)) (λ k d below. refl)

pub table_of_records-references : (records : List (List (List ℕ))) (t : TableEntries)
    → table_of_records records ≡ Ok t → IsTable t
    → All (λ e. IsReference e.isotopes e.reference) t.elements
table_of_records-references records t is table = λ k d below. each k d below
  where
    places : All (λ (e : ElementEntry). e.reference ≡ reference_place e.isotopes) t.elements
    places =
        let rows = rows_of_table records t is in
        subst (All (λ (e : ElementEntry). e.reference ≡ reference_place e.isotopes))
        (sym (table_from-elements (electron_of rows.0) (elements_of rows.0) t rows.1))
        (elements_of-references rows.0)

    each : All (λ (e : ElementEntry). IsReference e.isotopes e.reference) t.elements
    each k d below =
        let element = table.elements k d below in
        let within = element.reference in
        subst (IsReference (get_or t.elements k d).isotopes) (sym (places k d below))
        (reference_place-IsReference (get_or t.elements k d).isotopes (omega (arith, within)))

-- the same of what a reading gives
pub Gives-references : (r : Result TableEntries TableFault) (records : List (List (List ℕ)))
    → Gives is_memory r (table_of_records records)
    → IfOk r IsTable → IfOk r (λ t. All (λ e. IsReference e.isotopes e.reference) t.elements)
Gives-references (Ok t) records gives is = table_of_records-references records t gives is
Gives-references (Err f) records gives is = tt
