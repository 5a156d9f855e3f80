-- For private contracts, a private model and proofs: what is gathered from the rows read so far, and what one more row
-- changes.
use Rattle.std.specs.Prelude.{ℕ, ◌+◌, ◌==◌, ◌≡◌, ◌≤◌, not, List, [], ◌∷◌, length, find, if◌then◌else◌, is_some, Option}
use Rattle.std.specs.Prelude.{Some, None, Result, IsTrue, All, AllPairs, map, codes}
use Rattle.std.specs.List.{list_any}
use Rattle.std.specs.Option.{ForSome}
use Rattle.std.specs.Str.{bytes_eq}
use Rattle.reader_answers.specs.Answers.{unless_fault, ◌>>=◌}
use Rattle.sorted_lists.specs.SortedLists.{put_in_order}
use Rattle.element_table.specs.Limits.{max_elements, max_isotopes, max_valence, min_electron_mass, max_electron_mass}
use Rattle.element_table.specs.SymbolText.{is_symbol}
use Rattle.element_table.specs.Elements.{ElementEntry, TableEntries, IsElement, IsIsotope}
use Rattle.element_table.specs.TableRows.{Row, element_with, is_electron, is_lighter, isotope_of_row, table_from}
use Rattle.element_table.specs.TableText.{row_of}
use Rattle.element_table.specs.declared.element.Isotope.{Isotope}
use Rattle.element_table.specs.declared.row.TableRow.{TableRow}
use Rattle.element_table.specs.declared.row.TableRow.TheVariants.{Electron, OfIsotope}
use Rattle.element_table.specs.declared.fault.TableFault.{TableFault}
use Rattle.element_table.specs.declared.fault.TableFault.TheVariants as fault

-- the row of a record that has been read
abbrev pub row_entry : TableRow → Row
row_entry (Electron mass) = record { symbol = codes "e-"; number = 0; mass = mass; weight = 0; valence = 0 }
row_entry (OfIsotope symbol valence isotope) =
    record { symbol = symbol; number = isotope.number; mass = isotope.mass; weight = isotope.weight; valence = valence }

-- an isotope's row within the limits
pub record IsIsotopeRow (symbol : List ℕ) (valence : ℕ) (isotope : Isotope) : Type 0 where
  pub symbol_ok : IsTrue (is_symbol symbol)
  pub valence_to : valence ≤ max_valence
  pub isotope_ok : IsIsotope isotope

-- a row within the limits
abbrev pub IsTableRow : TableRow → Type 0
IsTableRow (Electron mass) = (min_electron_mass ≤ mass) × (mass ≤ max_electron_mass)
IsTableRow (OfIsotope symbol valence isotope) = IsIsotopeRow symbol valence isotope

-- what rows say so far: the electron's mass, if it has been read, and the elements
pub record GatheredEntries : Type 0 where
  pub electron : Option ℕ
  pub elements : List ElementEntry

-- nothing gathered yet
abbrev pub nothing_gathered : GatheredEntries
nothing_gathered = record { electron = None; elements = [] }

-- an element with one more isotope
abbrev pub with_isotope : ElementEntry → Isotope → ElementEntry
with_isotope e isotope = element_with e.symbol e.valence (put_in_order is_lighter isotope e.isotopes)

-- what is wrong with one more isotope of an element, if anything is
abbrev pub isotope_fault : ℕ → ElementEntry → ℕ → Isotope → Option TableFault
isotope_fault record_number e valence isotope =
    if not (e.valence == valence) then Some (fault.Valence record_number)
    else (if list_any (λ other. other.number == isotope.number) e.isotopes then Some (fault.Repeated record_number)
    else (if length e.isotopes == max_isotopes then Some (fault.TooManyIsotopes record_number) else None))

-- the elements with one more isotope: a new element goes to the end
abbrev pub with_isotope_of : List ElementEntry → List ℕ → ℕ → Isotope → List ElementEntry
with_isotope_of [] symbol valence isotope = element_with symbol valence (isotope ∷ []) ∷ []
with_isotope_of (e ∷ es) symbol valence isotope =
    if bytes_eq symbol e.symbol then with_isotope e isotope ∷ es else e ∷ with_isotope_of es symbol valence isotope

-- what is wrong with an isotope of the element found, or of a new one
abbrev pub fault_at : ℕ → ℕ → Option ElementEntry → ℕ → Isotope → Option TableFault
fault_at record_number count (Some e) valence isotope = isotope_fault record_number e valence isotope
fault_at record_number count None valence isotope =
    if count == max_elements then Some (fault.TooManyElements record_number) else None

-- what is wrong with one more isotope, if anything is
abbrev pub fault_among : ℕ → List ElementEntry → List ℕ → ℕ → Isotope → Option TableFault
fault_among record_number elements symbol valence isotope =
    fault_at record_number (length elements) (find (λ e. bytes_eq symbol e.symbol) elements) valence isotope

-- what is wrong with one more row, if anything is
abbrev pub fault_in : ℕ → GatheredEntries → Row → Option TableFault
fault_in record_number gathered row =
    if is_electron row.symbol then (if is_some gathered.electron then Some (fault.Repeated record_number) else None)
    else fault_among record_number gathered.elements row.symbol row.valence (isotope_of_row row)

-- what is gathered with one more row
abbrev pub with_row : GatheredEntries → Row → GatheredEntries
with_row gathered row =
    if is_electron row.symbol then record { electron = Some row.mass; elements = gathered.elements }
    else record {
      electron = gathered.electron;
      elements = with_isotope_of gathered.elements row.symbol row.valence
          (isotope_of_row row);
    }

-- the table of what is gathered and the records from this number on, or the first fault
abbrev pub gather_from : ℕ → ℕ → GatheredEntries → List (List (List ℕ)) → Result TableEntries TableFault
gather_from decimals record_number gathered [] = table_from gathered.electron gathered.elements
gather_from decimals record_number gathered (fields ∷ records) =
    row_of decimals record_number fields >>= λ row. unless_fault (fault_in record_number gathered row)
    (gather_from decimals (record_number + 1) (with_row gathered row) records)

-- at most 120 elements, each within the limits, no symbol twice
pub record AreElements (elements : List ElementEntry) : Type 0 where
  pub few : length elements ≤ max_elements
  pub each : All IsElement elements
  pub distinct : AllPairs (λ a b. a.symbol ≡ b.symbol → ⊥) elements

-- the electron's mass within its limits, and elements within theirs under their symbols
pub record IsGathered (electron : Option ℕ) (symbols : List (List ℕ)) (elements : List ElementEntry) : Type 0 where
  pub electron_ok : ForSome electron (λ mass. (min_electron_mass ≤ mass) × (mass ≤ max_electron_mass))
  pub symbols_of : symbols ≡ map (λ e. e.symbol) elements
  pub elements_ok : AreElements elements
