-- What the bytes of a tracer file make of a table: other weights for the elements that it names, or the first fault.
use Rattle.std.specs.Prelude.{ℕ, Bool, ◌≡◌, ◌&&◌, ◌==◌, List, [], ◌∷◌, drop, map, find, if◌then◌else◌, Option, Some}
use Rattle.std.specs.Prelude.{None, option_map, option_and_then, Result, Ok, Err, codes}
use Rattle.std.specs.List.{list_any}
use Rattle.std.specs.Str.{bytes_eq}
use Rattle.csv_records.specs.FileRecords.{file_records, has_header}
use Rattle.fixed_decimal.specs.Decimal.{decimal_within, whole_within}
use Rattle.reader_answers.specs.Answers.{or_fault, unless_fault, ◌>>=◌}
use Rattle.element_table.specs.Limits.{full_abundance, max_mass_number}
use Rattle.element_table.specs.Elements.{ElementEntry, TableEntries, element_of, isotope_of, reference_isotope}
use Rattle.element_table.specs.Elements.{total_weight}
use Rattle.reader_answers.specs.RecordRows.{rows_after}
use Rattle.element_table.specs.declared.element.Isotope.{Isotope}
use Rattle.element_table.specs.declared.tracer.TracerRow.{TracerRow}
use Rattle.element_table.specs.declared.tracer_fault.TracerFault.{TracerFault}
use Rattle.element_table.specs.declared.tracer_fault.TracerFault.TheVariants as fault

-- the first record of a tracer file
abbrev pub tracer_header : List (List ℕ)
tracer_header = codes "symbol" ∷ codes "number" ∷ codes "abundance12" ∷ []

-- the isotope whose mass number a text spells, if the element has it
abbrev pub isotope_spelled : ElementEntry → List ℕ → Option Isotope
isotope_spelled e text = option_and_then (isotope_of e.isotopes) (whole_within 1 max_mass_number text)

-- what a record says by itself, or the first of its own faults: its symbol is an element of the table, its number an
-- isotope of that element, its abundance a decimal of at most 12 decimals and at most 1
unfoldable pub tracer_row_of : TableEntries → ℕ → List (List ℕ) → Result TracerRow TracerFault
tracer_row_of table record_number (symbol ∷ number ∷ abundance ∷ []) = do
  element ← or_fault (fault.Symbol record_number) (element_of table symbol)
  isotope ← or_fault (fault.MassNumber record_number) (isotope_spelled element number)
  weight ← or_fault (fault.Abundance record_number) (decimal_within 12 0 full_abundance abundance)
  Ok (record { symbol = element.symbol; number = isotope.number; weight = weight })
tracer_row_of table record_number fields = Err (fault.FieldCount record_number)

-- whether a row is of the isotope of this symbol and this mass number
abbrev pub is_of_isotope : List ℕ → ℕ → TracerRow → Bool
is_of_isotope symbol number row = bytes_eq row.symbol symbol && (row.number == number)

-- a record's row is repeated where an earlier row is of its isotope
abbrev pub repeated_after : ℕ → List TracerRow → TracerRow → Option TracerFault
repeated_after record_number earlier row =
    if list_any (is_of_isotope row.symbol row.number) earlier then Some (fault.Repeated record_number) else None

-- the rows of a tracer's records, or the first fault: the header stands first
abbrev pub tracer_rows : TableEntries → List (List (List ℕ)) → Result (List TracerRow) TracerFault
tracer_rows table records =
    if has_header tracer_header records then rows_after (tracer_row_of table) repeated_after 2 [] (drop 1 records)
    else Err (fault.Header 1)

-- the weight of a row, and 0 where there is none
abbrev pub weight_if : Option TracerRow → ℕ
weight_if None = 0
weight_if (Some row) = row.weight

-- the weight that a tracer gives the isotope of this symbol and this mass number, 0 where it doesn't name it
abbrev pub tracer_weight : List TracerRow → List ℕ → ℕ → ℕ
tracer_weight rows symbol number = weight_if (find (is_of_isotope symbol number) rows)

-- whether a tracer names the element of this symbol
abbrev pub is_named : List TracerRow → List ℕ → Bool
is_named rows symbol = list_any (λ row. bytes_eq row.symbol symbol) rows

-- an isotope with the weight of the tracer
abbrev pub traced_isotope : List TracerRow → List ℕ → Isotope → Isotope
traced_isotope rows symbol isotope =
    record { number = isotope.number; mass = isotope.mass; weight = tracer_weight rows symbol isotope.number }

-- an element, with the weights of the tracer where it names the element
abbrev pub traced_element : List TracerRow → ElementEntry → ElementEntry
traced_element rows e =
    if is_named rows e.symbol then record e { isotopes = map (traced_isotope rows e.symbol) e.isotopes } else e

-- the elements with the weights of the tracer, in the same order
abbrev pub traced_elements : List TracerRow → List ElementEntry → List ElementEntry
traced_elements rows elements = map (traced_element rows) elements

-- whether the tracer names an element and gives each isotope of it the weight 0
abbrev pub is_weightless_by : List TracerRow → ElementEntry → Bool
is_weightless_by rows e = is_named rows e.symbol && (total_weight e.isotopes == 0)

-- the fault of the first element that a tracer names and leaves without weight
abbrev pub traced_weight_fault : List TracerRow → List ElementEntry → Option TracerFault
traced_weight_fault rows elements =
    option_map (λ e. fault.NoWeight e.symbol) (find (is_weightless_by rows) elements)

-- the table with the weights of a tracer's rows, unless an element that they name has no weight
abbrev pub traced_by : TableEntries → List TracerRow → Result TableEntries TracerFault
traced_by table rows =
    let elements = traced_elements rows table.elements in
    unless_fault (traced_weight_fault rows elements) (Ok (record table { elements = elements }))

-- the table with the weights of the tracer that bytes stand for, or the first fault
abbrev pub traced : TableEntries → List ℕ → Result TableEntries TracerFault
traced table bytes = tracer_rows table (file_records bytes) >>= traced_by table

-- an isotope without its weight
abbrev pub unweighted_isotope : Isotope → Isotope
unweighted_isotope isotope = record { number = isotope.number; mass = isotope.mass; weight = 0 }

-- an element without the weights of its isotopes
abbrev pub unweighted_element : ElementEntry → ElementEntry
unweighted_element e = record e { isotopes = map unweighted_isotope e.isotopes }

-- its reference isotope without its weight
abbrev pub unweighted_reference : ElementEntry → Isotope
unweighted_reference e = unweighted_isotope (reference_isotope e)

-- two tables differ in weights alone: each element has its symbol, its valence, its isotopes' mass numbers and masses,
-- and its reference isotope stays the same
pub record DifferInWeights (old new : TableEntries) : Type 0 where
  pub electron : new.electron ≡ old.electron
  pub elements : map unweighted_element new.elements ≡ map unweighted_element old.elements
  pub references : map unweighted_reference new.elements ≡ map unweighted_reference old.elements
