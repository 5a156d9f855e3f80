-- What is gathered from rows, with one more row.
use Rattle.std.proofs.Common.{◌≡◌, ℕ, Bool, true, false, List, [], ◌∷◌, ◌++◌, map, find, Option, Some, None, is_some}
use Rattle.std.proofs.Common.{option_map, if◌then◌else◌, codes, refl, sym, ap, ◌∙◌, ◌==◌, subst, true≢false}
use Rattle.std.specs.List.{list_any}
use Rattle.std.specs.Option.{option_or}
use Rattle.std.specs.Str.{bytes_eq}
use Rattle.std.proofs.lemmas.Bool.{or_left, or_parts}
use Rattle.std.proofs.lemmas.List.Folds.{find-append}
use Rattle.element_table.specs.Elements.{ElementEntry}
use Rattle.element_table.specs.TableRows.{Row, rows_of, first_symbols, isotope_rows, is_electron, first_valence}
use Rattle.element_table.specs.TableRows.{element_with, entry_of, elements_of, electron_of, isotope_of_row}
use Rattle.element_table.specs.TableRows.{rising_isotopes}
use Rattle.element_table.specs.Gathering.{GatheredEntries, with_isotope, with_isotope_of, with_row, fault_in}
use Rattle.element_table.specs.declared.fault.TableFault.{TableFault}
use Rattle.element_table.proofs.FirstSymbols.{same_bytes, bytes_eq-refl, push_symbol, push_symbol-cons, AreDistinct}
use Rattle.element_table.proofs.FirstSymbols.{AreDistinct-first_symbols, first_symbols-push, any-isotope_symbols}
use Rattle.element_table.proofs.FirstSymbols.{any-electron_symbol}
use Rattle.element_table.proofs.RowsOfSymbols.{rows_of-push_same, rows_of-push_other, isotope_rows-push}
use Rattle.element_table.proofs.RowsOfSymbols.{isotope_rows-push_electron, rows_of-none, rows_of-some}
use Rattle.element_table.proofs.RisingRows.{rising_isotopes-push}

-- what is gathered from rows
abbrev pub gathered_of : List Row → GatheredEntries
gathered_of rows = record { electron = electron_of rows; elements = elements_of rows }

-- options that are there or not
option_or-none : {A : Type 0} (o : Option A) → option_or o None ≡ o
option_or-none None = refl
option_or-none (Some x) = refl

none_from_map : {A B : Type 0} (f : A → B) (o : Option A) → is_some (option_map f o) ≡ false → o ≡ None
none_from_map f None none = refl
none_from_map f (Some x) none = absurd (true≢false none)

no_fault_false : (b : Bool) (f : TableFault) → (if b then Some f else None) ≡ None → b ≡ false
no_fault_false true f none = cc
no_fault_false false f none = refl

pub is_some-electron_of : (rows : List Row) → is_some (electron_of rows) ≡ list_any (λ row. is_electron row.symbol) rows
is_some-electron_of [] = refl
is_some-electron_of (x ∷ rows) = by (is_electron x.symbol) refl (is_some-electron_of rows)
  where
    by : (b : Bool) → is_electron x.symbol ≡ b
        → is_some (electron_of rows) ≡ list_any (λ (row : Row). is_electron row.symbol) rows
        → is_some (electron_of (x ∷ rows)) ≡ list_any (λ (row : Row). is_electron row.symbol) (x ∷ rows)
    by true electron rest = rw electron refl
    by false isotope rest = rw isotope rest

-- the element that has a symbol
pub find-entries : (rows : List Row) (s : List ℕ) (ss : List (List ℕ))
    → find (λ e. bytes_eq s e.symbol) (map (entry_of rows) ss)
    ≡ (if list_any (bytes_eq s) ss then Some (entry_of rows s) else None)
find-entries rows s [] = refl
find-entries rows s (t ∷ ss) = by (bytes_eq s t) refl (find-entries rows s ss)
  where
    by : (b : Bool) → bytes_eq s t ≡ b
        → find (λ (e : ElementEntry). bytes_eq s e.symbol) (map (entry_of rows) ss)
        ≡ (if list_any (bytes_eq s) ss then Some (entry_of rows s) else None)
        → find (λ (e : ElementEntry). bytes_eq s e.symbol) (map (entry_of rows) (t ∷ ss))
        ≡ (if list_any (bytes_eq s) (t ∷ ss) then Some (entry_of rows s) else None)
    by true same rest = rw same (ap (λ u. Some (entry_of rows u)) (sym (same_bytes s t same)))
    by false other rest = rw other rest

-- no row of the symbol has the mass number of the row
abbrev pub IsNewNumber : List Row → Row → Type 0
IsNewNumber rows row = list_any (λ (other : Row). other.number == row.number) (rows_of row.symbol rows) ≡ false

module _ (rows : List Row) (row : Row) where
  -- an element of another symbol stays as it is
  entry_of-other : (s : List ℕ) → bytes_eq row.symbol s ≡ false → entry_of (rows ++ row ∷ []) s ≡ entry_of rows s
  entry_of-other s other =
      ap (λ (same : List Row). element_with s (first_valence 0 same) (rising_isotopes same))
      (rows_of-push_other s rows row other)

  entries_of-other : (ss : List (List ℕ)) → list_any (bytes_eq row.symbol) ss ≡ false
      → map (entry_of (rows ++ row ∷ [])) ss ≡ map (entry_of rows) ss
  entries_of-other [] none = refl
  entries_of-other (s ∷ ss) none =
      let parts = or_parts (bytes_eq row.symbol s) (list_any (bytes_eq row.symbol) ss) none in
      let head : entry_of (rows ++ row ∷ []) s ≡ entry_of rows s = entry_of-other s parts.0 in
      let tail : map (entry_of (rows ++ row ∷ [])) ss ≡ map (entry_of rows) ss = entries_of-other ss parts.1 in
      cc

  -- an element that is there has one more isotope
  entry_of-same : (s : List ℕ) (first : Row) (others : List Row) → bytes_eq row.symbol s ≡ true
      → rows_of s rows ≡ first ∷ others → IsNewNumber rows row
      → entry_of (rows ++ row ∷ []) s ≡ with_isotope (entry_of rows s) (isotope_of_row row)
  entry_of-same s first others same there new =
      let pushed = rows_of-push_same s rows row same in
      let is : row.symbol ≡ s = same_bytes row.symbol s same in
      let one : list_any (λ (other : Row). other.number == row.number) (rows_of s rows) ≡ false =
      subst (λ t. list_any (λ (other : Row). other.number == row.number) (rows_of t rows) ≡ false) is new in
      let rising = rising_isotopes-push (first ∷ others) row (rw there at one) in
      rw (pushed, there, rising) refl

  -- and a new one has this isotope alone
  entry_of-new : rows_of row.symbol rows ≡ []
      → entry_of (rows ++ row ∷ []) row.symbol ≡ element_with row.symbol row.valence (isotope_of_row row ∷ [])
  entry_of-new none =
      let pushed = rows_of-push_same row.symbol rows row (bytes_eq-refl row.symbol) in
      rw (pushed, none) refl

  -- the elements of distinct symbols with one more row
  entries-push : IsNewNumber rows row → (ss : List (List ℕ)) → AreDistinct ss
      → list_any (bytes_eq row.symbol) ss ≡ list_any (λ r. bytes_eq r.symbol row.symbol) rows
      → map (entry_of (rows ++ row ∷ [])) (push_symbol row.symbol ss)
      ≡ with_isotope_of (map (entry_of rows) ss) row.symbol row.valence (isotope_of_row row)
  entries-push new [] distinct has = ap (λ e. e ∷ []) (entry_of-new (rows_of-none row.symbol rows (sym has)))
  entries-push new (s ∷ ss) distinct has = by (bytes_eq row.symbol s) refl (λ rest. entries-push new ss distinct.1 rest)
    where
      by : (b : Bool) → bytes_eq row.symbol s ≡ b
          → (list_any (bytes_eq row.symbol) ss ≡ list_any (λ (r : Row). bytes_eq r.symbol row.symbol) rows
          → map (entry_of (rows ++ row ∷ [])) (push_symbol row.symbol ss)
          ≡ with_isotope_of (map (entry_of rows) ss) row.symbol row.valence (isotope_of_row row))
          → map (entry_of (rows ++ row ∷ [])) (push_symbol row.symbol (s ∷ ss))
          ≡ with_isotope_of (map (entry_of rows) (s ∷ ss)) row.symbol row.valence (isotope_of_row row)
      by true same rest =
          let is : row.symbol ≡ s = same_bytes row.symbol s same in
          let there = rows_of-some s rows (rw is at (sym has ∙ or_left _ _ same)) in
          let head : entry_of (rows ++ row ∷ []) s ≡ with_isotope (entry_of rows s) (isotope_of_row row) =
          entry_of-same s there.0 there.1 same there.2 new in
          let tail : map (entry_of (rows ++ row ∷ [])) ss ≡ map (entry_of rows) ss =
          entries_of-other ss (rw is distinct.0) in
          rw same (ap (λ e. e ∷ map (entry_of (rows ++ row ∷ [])) ss) head
          ∙ ap (λ es. with_isotope (entry_of rows s) (isotope_of_row row) ∷ es) tail)
      by false other rest =
          rw (push_symbol-cons row.symbol s ss other, other)
          (ap (λ es. entry_of (rows ++ row ∷ []) s ∷ es) (rest (rw other at has))
          ∙ ap (λ e. e ∷ with_isotope_of (map (entry_of rows) ss) row.symbol row.valence (isotope_of_row row))
          (entry_of-other s other))

  -- the elements with one more isotope
  elements_of-push : IsNewNumber rows row → is_electron row.symbol ≡ false
      → elements_of (rows ++ row ∷ []) ≡ with_isotope_of (elements_of rows) row.symbol row.valence (isotope_of_row row)
  elements_of-push new isotope =
      ap (map (entry_of (rows ++ row ∷ []))) (ap first_symbols (isotope_rows-push rows row isotope)
      ∙ first_symbols-push (isotope_rows rows) row)
      ∙ entries-push new (first_symbols (isotope_rows rows)) (AreDistinct-first_symbols (isotope_rows rows))
      (any-isotope_symbols row.symbol rows isotope)

  -- the electron is no element
  elements_of-push_electron : is_electron row.symbol ≡ true → elements_of (rows ++ row ∷ []) ≡ elements_of rows
  elements_of-push_electron electron =
      ap (λ others. map (entry_of (rows ++ row ∷ [])) (first_symbols others))
      (isotope_rows-push_electron rows row electron)
      ∙ entries_of-other (first_symbols (isotope_rows rows))
      (rw (same_bytes row.symbol (codes "e-") electron) (any-electron_symbol rows))

  electron_of-push : is_electron row.symbol ≡ false → electron_of (rows ++ row ∷ []) ≡ electron_of rows
  electron_of-push isotope =
      ap (option_map (λ (row : Row). row.mass)) (find-append (λ (row : Row). is_electron row.symbol) rows (row ∷ [])
      ∙ rw isotope (option_or-none _))

  electron_of-push_electron : is_electron row.symbol ≡ true → is_some (electron_of rows) ≡ false
      → electron_of (rows ++ row ∷ []) ≡ Some row.mass
  electron_of-push_electron electron first =
      let none : find (λ (row : Row). is_electron row.symbol) rows ≡ None = none_from_map _ _ first in
      let last : find (λ (row : Row). is_electron row.symbol) (rows ++ row ∷ []) ≡ Some row =
      find-append (λ (row : Row). is_electron row.symbol) rows (row ∷ []) ∙ rw (none, electron) refl in
      ap (option_map (λ (row : Row). row.mass)) last

  -- what is gathered with one more row that has no fault
  pub gathered_of-push : (place : ℕ) → IsNewNumber rows row → fault_in place (gathered_of rows) row ≡ None
      → gathered_of (rows ++ row ∷ []) ≡ with_row (gathered_of rows) row
  gathered_of-push place new none = by (is_electron row.symbol) refl
    where
      by : (b : Bool) → is_electron row.symbol ≡ b → gathered_of (rows ++ row ∷ []) ≡ with_row (gathered_of rows) row
      by true electron =
          let first : is_some (electron_of rows) ≡ false = no_fault_false _ _ (rw electron at none) in
          rw electron (ap (λ (e : Option ℕ). record { electron = e; elements = elements_of (rows ++ row ∷ []) })
          (electron_of-push_electron electron first)
          ∙ ap (λ (es : List ElementEntry). record { electron = Some row.mass; elements = es })
          (elements_of-push_electron electron))
      by false isotope =
          rw isotope (ap (λ (e : Option ℕ). record { electron = e; elements = elements_of (rows ++ row ∷ []) })
          (electron_of-push isotope)
          ∙ ap (λ (es : List ElementEntry). record { electron = electron_of rows; elements = es })
          (elements_of-push new isotope))
