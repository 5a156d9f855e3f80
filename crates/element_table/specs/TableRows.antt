-- What the rows of a table file say together: the elements and the electron, or the first fault.
use Rattle.std.specs.Prelude.{ℕ, ◌==◌, ◌&&◌, not, Bool, List, [], ◌∷◌, length, map, filter, find, nat_lt, if◌then◌else◌}
use Rattle.std.specs.Prelude.{Option, Some, None, option_map, Result, Ok, codes}
use Rattle.std.specs.List.{list_any}
use Rattle.std.specs.Str.{bytes_eq}
use Rattle.reader_answers.specs.Answers.{or_fault, unless_fault, ◌>>=◌}
use Rattle.sorted_lists.specs.SortedLists.{sorted_by}
use Rattle.element_table.specs.Limits.{max_elements, max_isotopes}
use Rattle.element_table.specs.Elements.{ElementEntry, TableEntries, reference_place, total_weight}
use Rattle.element_table.specs.declared.element.Isotope.{Isotope}
use Rattle.element_table.specs.declared.fault.TableFault.{TableFault}
use Rattle.element_table.specs.declared.fault.TableFault.TheVariants as fault

-- what one record says: an isotope of an element, or the electron. The mass is in 10^-12 Da, the weight in units of
-- 10^-12.
pub record Row : Type 0 where
  pub symbol : List ℕ
  pub number : ℕ
  pub mass : ℕ
  pub weight : ℕ
  pub valence : ℕ

-- whether a symbol's field is the electron's, `e-`
abbrev pub is_electron : List ℕ → Bool
is_electron symbol = bytes_eq symbol (codes "e-")

-- the rows with this symbol
abbrev pub rows_of : List ℕ → List Row → List Row
rows_of symbol rows = filter (λ row. bytes_eq row.symbol symbol) rows

-- the symbols of the rows, each once, in the order of their first rows
abbrev pub first_symbols : List Row → List (List ℕ)
first_symbols [] = []
first_symbols (row ∷ rows) = row.symbol ∷ filter (λ symbol. not (bytes_eq symbol row.symbol)) (first_symbols rows)

-- the rows of isotopes
abbrev pub isotope_rows : List Row → List Row
isotope_rows rows = filter (λ row. not (is_electron row.symbol)) rows

-- the valence of an element by its first row, or else this one
abbrev pub first_valence : ℕ → List Row → ℕ
first_valence valence [] = valence
first_valence valence (row ∷ rows) = row.valence

-- what is wrong with a record's row behind the earlier rows, if anything is
unfoldable pub fault_after : ℕ → List Row → Row → Option TableFault
fault_after record_number earlier row =
    let same = rows_of row.symbol earlier in
    if not (first_valence row.valence same == row.valence) then Some (fault.Valence record_number)
    else (if list_any (λ other. other.number == row.number) same then Some (fault.Repeated record_number)
    else (if is_electron row.symbol then None
    else (if (length same == 0) && (length (first_symbols (isotope_rows earlier)) == max_elements) then Some
    (fault.TooManyElements record_number)
    else (if length same == max_isotopes then Some (fault.TooManyIsotopes record_number) else None))))

-- whether an isotope is lighter by its mass number
abbrev pub is_lighter : Isotope → Isotope → Bool
is_lighter a b = nat_lt a.number b.number

-- the isotope of a row
abbrev pub isotope_of_row : Row → Isotope
isotope_of_row row = record { number = row.number; mass = row.mass; weight = row.weight }

-- the isotopes of rows by rising mass number
abbrev pub rising_isotopes : List Row → List Isotope
rising_isotopes rows = sorted_by is_lighter (map isotope_of_row rows)

-- the element of this symbol, this valence and these isotopes, with its reference isotope by their weights
abbrev pub element_with : List ℕ → ℕ → List Isotope → ElementEntry
element_with symbol valence isotopes =
    record { symbol = symbol; valence = valence; isotopes = isotopes; reference = reference_place isotopes }

-- the element of this symbol
abbrev pub entry_of : List Row → List ℕ → ElementEntry
entry_of rows symbol =
    element_with symbol (first_valence 0 (rows_of symbol rows)) (rising_isotopes (rows_of symbol rows))

-- the elements of the rows, in the order of their first rows
abbrev pub elements_of : List Row → List ElementEntry
elements_of rows = map (entry_of rows) (first_symbols (isotope_rows rows))

-- the electron's mass
abbrev pub electron_of : List Row → Option ℕ
electron_of rows = option_map (λ row. row.mass) (find (λ row. is_electron row.symbol) rows)

-- the first element of which no isotope occurs
abbrev pub weightless_element : List ElementEntry → Option ElementEntry
weightless_element elements = find (λ e. total_weight e.isotopes == 0) elements

-- the fault of the first element of which no isotope occurs
abbrev pub weight_fault : List ElementEntry → Option TableFault
weight_fault elements = option_map (λ e. fault.NoWeight e.symbol) (weightless_element elements)

-- the table of an electron, if there is one, and elements, unless one has no weight
abbrev pub table_from : Option ℕ → List ElementEntry → Result TableEntries TableFault
table_from electron elements =
    or_fault fault.NoElectron electron
    >>= λ mass. unless_fault (weight_fault elements) (Ok (record { electron = mass; elements = elements }))

-- the table of all rows
abbrev pub table_of_rows : List Row → Result TableEntries TableFault
table_of_rows rows = table_from (electron_of rows) (elements_of rows)
