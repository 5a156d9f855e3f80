-- The fault of a row behind others, by what is gathered from them.
use Rattle.std.proofs.Common.{◌≡◌, ℕ, ◌==◌, not, Bool, true, false, List, [], ◌∷◌, length, find, Some, None, is_some}
use Rattle.std.proofs.Common.{if◌then◌else◌, codes, refl, sym, ◌∙◌, arith}
use Rattle.std.specs.List.{list_any}
use Rattle.std.specs.Str.{bytes_eq}
use Rattle.std.proofs.lemmas.Bool.{eq-eqb, ne_eqb}
use Rattle.std.proofs.lemmas.List.{length-map}
use Rattle.element_table.specs.Elements.{ElementEntry}
use Rattle.element_table.specs.TableRows.{Row, rows_of, first_symbols, isotope_rows, is_electron, first_valence}
use Rattle.element_table.specs.TableRows.{entry_of, elements_of, electron_of, isotope_of_row, fault_after}
use Rattle.element_table.specs.Gathering.{fault_in, fault_among}
use Rattle.element_table.specs.declared.element.Isotope.{Isotope}
use Rattle.element_table.specs.declared.fault.TableFault.TheVariants as fault
use Rattle.element_table.proofs.FirstSymbols.{same_bytes, any-isotope_symbols}
use Rattle.element_table.proofs.RowsOfSymbols.{IsRow, AreRows, first_row, rows_of-none, rows_of-some}
use Rattle.element_table.proofs.RisingRows.{list_any-rising, length-rising}
use Rattle.element_table.proofs.GatheredRows.{gathered_of, find-entries, is_some-electron_of}

module _ (rows : List Row) (row : Row) (record_number : ℕ) where
  -- an isotope
  fault_after-isotope : is_electron row.symbol ≡ false
      → fault_after record_number rows row
      ≡ fault_among record_number (elements_of rows) row.symbol row.valence (isotope_of_row row)
  unfolding fault_after
  fault_after-isotope isotope = by (list_any (λ (r : Row). bytes_eq r.symbol row.symbol) rows) refl
    where
      found : (b : Bool) → list_any (λ (r : Row). bytes_eq r.symbol row.symbol) rows ≡ b
          → find (λ (e : ElementEntry). bytes_eq row.symbol e.symbol) (elements_of rows)
          ≡ (if b then Some (entry_of rows row.symbol) else None)
      found b has =
          find-entries rows row.symbol (first_symbols (isotope_rows rows))
          ∙ rw (any-isotope_symbols row.symbol rows isotope, has) refl

      by : (b : Bool) → list_any (λ (r : Row). bytes_eq r.symbol row.symbol) rows ≡ b
          → fault_after record_number rows row
          ≡ fault_among record_number (elements_of rows) row.symbol row.valence (isotope_of_row row)
      by true has =
          let there = rows_of-some row.symbol rows has in
          let numbers = list_any-rising (λ (i : Isotope). i.number == row.number) (there.0 ∷ there.1) in
          let count = length-rising (there.0 ∷ there.1) in
          rw (
            found true has,
            there.2,
            isotope,
            numbers,
            count,
            ne_eqb (length (there.0 ∷ there.1)) 0
                (λ same. omega (arith, same)),
          ) refl
      by false has =
          rw (
            found false has,
            rows_of-none row.symbol rows has,
            isotope,
            eq-eqb row.valence row.valence refl,
            length-map,
          ) refl

  -- the electron, whose number and valence are 0 in each row
  fault_after-electron : is_electron row.symbol ≡ true → IsRow row → AreRows rows
      → fault_after record_number rows row
      ≡ (if is_some (electron_of rows) then Some (fault.Repeated record_number) else None)
  unfolding fault_after
  fault_after-electron electron is are = by (list_any (λ (r : Row). is_electron r.symbol) rows) refl
    where
      symbol : row.symbol ≡ codes "e-"
      symbol = same_bytes row.symbol (codes "e-") electron

      by : (b : Bool) → list_any (λ (r : Row). is_electron r.symbol) rows ≡ b
          → fault_after record_number rows row
          ≡ (if is_some (electron_of rows) then Some (fault.Repeated record_number) else None)
      by true has =
          let there = rows_of-some (codes "e-") rows has in
          let one = first_row (codes "e-") rows there.0 there.1 are there.2 in
          let first : is_electron there.0.symbol ≡ true = rw one.1 refl in
          let same : rows_of row.symbol rows ≡ there.0 ∷ there.1 = rw symbol there.2 in
          let valence =
          eq-eqb there.0.valence row.valence (one.0.electron_valence first ∙ sym (is.electron_valence electron)) in
          let number =
          eq-eqb there.0.number row.number (one.0.electron_number first ∙ sym (is.electron_number electron)) in
          rw (same, valence, number, is_some-electron_of, has) refl
      by false has =
          let none : rows_of row.symbol rows ≡ [] = rw symbol (rows_of-none (codes "e-") rows has) in
          rw (none, electron, eq-eqb row.valence row.valence refl, is_some-electron_of, has) refl

  pub fault_after-gathered : IsRow row → AreRows rows
      → fault_after record_number rows row ≡ fault_in record_number (gathered_of rows) row
  fault_after-gathered is are = by (is_electron row.symbol) refl
    where
      by : (b : Bool) → is_electron row.symbol ≡ b
          → fault_after record_number rows row ≡ fault_in record_number (gathered_of rows) row
      by true electron = fault_after-electron electron is are ∙ sym (rw electron refl)
      by false isotope = fault_after-isotope isotope ∙ sym (rw isotope refl)

  -- a row without a fault has a new mass number
  pub fault_after-new : fault_after record_number rows row ≡ None
      → list_any (λ (other : Row). other.number == row.number) (rows_of row.symbol rows) ≡ false
  unfolding fault_after
  fault_after-new none =
      by (not (first_valence row.valence (rows_of row.symbol rows) == row.valence)) refl
      (list_any (λ (other : Row). other.number == row.number) (rows_of row.symbol rows)) refl
    where
      by : (b : Bool) → not (first_valence row.valence (rows_of row.symbol rows) == row.valence) ≡ b → (c : Bool)
          → list_any (λ (other : Row). other.number == row.number) (rows_of row.symbol rows) ≡ c → c ≡ false
      by b valence false new = refl
      by true valence true found =
          absurd (let fault : Some (fault.Valence record_number) ≡ None = rw valence at none in cc)
      by false valence true found =
          absurd (let fault : Some (fault.Repeated record_number) ≡ None = rw (valence, found) at none in cc)
