-- What the bytes of a table file stand for: the table, or the first fault.
use Rattle.std.specs.Prelude.{ℕ, ◌*◌, ◌/◌, ◌^◌, List, [], ◌∷◌, drop, if◌then◌else◌, Option, Some, None, option_map}
use Rattle.std.specs.Prelude.{Result, Ok, Err, codes}
use Rattle.csv_records.specs.FileRecords.{file_records, has_header}
use Rattle.fixed_decimal.specs.Decimal.{decimal_within, whole_within}
use Rattle.reader_answers.specs.Answers.{or_fault, ◌>>=◌}
use Rattle.element_table.specs.Limits.{full_abundance, max_mass_number, max_valence, min_isotope_mass, max_isotope_mass}
use Rattle.element_table.specs.Limits.{min_electron_mass, max_electron_mass}
use Rattle.element_table.specs.SymbolText.{is_symbol}
use Rattle.element_table.specs.Elements.{TableEntries}
use Rattle.reader_answers.specs.RecordRows.{rows_after}
use Rattle.element_table.specs.TableRows.{Row, is_electron, fault_after, table_of_rows}
use Rattle.element_table.specs.declared.fault.TableFault.{TableFault}
use Rattle.element_table.specs.declared.fault.TableFault.TheVariants as fault

-- the ranges of a record's numbers: the mass number, the mass in 10^-12 Da, the weight in units of 10^-12, the valence
pub record Ranges : Type 0 where
  pub number_from : ℕ
  pub number_to : ℕ
  pub mass_from : ℕ
  pub mass_to : ℕ
  pub weight_to : ℕ
  pub valence_to : ℕ

-- an isotope: a mass of 0.5 to 400 Da, an abundance of at most 1
abbrev pub isotope_ranges : Ranges
isotope_ranges = record {
  number_from = 1;
  number_to = max_mass_number;
  mass_from = min_isotope_mass;
  mass_to = max_isotope_mass;
  weight_to = full_abundance;
  valence_to = max_valence;
}

-- the electron: a mass of 10^-12 to 0.001 Da, and 0 in each other field
abbrev pub electron_ranges : Ranges
electron_ranges = record {
  number_from = 0;
  number_to = 0;
  mass_from = min_electron_mass;
  mass_to = max_electron_mass;
  weight_to = 0;
  valence_to = 0;
}

-- the first record of a table file in which abundances have this name
abbrev pub header_fields : List ℕ → List (List ℕ)
header_fields abundance = codes "symbol" ∷ codes "number" ∷ codes "mass" ∷ abundance ∷ codes "valence" ∷ []

-- the version by the first record: the decimals of an abundance, 9 in version 1 and 12 in version 2
abbrev pub abundance_decimals : List (List (List ℕ)) → Option ℕ
abundance_decimals records =
    if has_header (header_fields (codes "abundance")) records then Some 9
    else (if has_header (header_fields (codes "abundance12")) records then Some 12 else None)

-- The weight in units of 10^-12 of the text of an abundance of at most so many decimals, if it is at most the limit. An
-- abundance of 1 has 10^decimals units of the last decimal.
abbrev pub weight_within : ℕ → ℕ → List ℕ → Option ℕ
weight_within decimals limit text =
    let unit = full_abundance / 10 ^ decimals in
    option_map (λ units. units * unit) (decimal_within decimals 0 (limit / unit) text)

-- the numbers of a record's fields, or the first fault among them
unfoldable pub numbers_of : ℕ → ℕ → Ranges → List ℕ → List ℕ → List ℕ → List ℕ → List ℕ → Result Row TableFault
numbers_of decimals record_number ranges symbol number mass abundance valence = do
  n ← or_fault (fault.MassNumber record_number) (whole_within ranges.number_from ranges.number_to number)
  m ← or_fault (fault.Mass record_number) (decimal_within 12 ranges.mass_from ranges.mass_to mass)
  w ← or_fault (fault.Abundance record_number) (weight_within decimals ranges.weight_to abundance)
  v ← or_fault (fault.Valence record_number) (whole_within 0 ranges.valence_to valence)
  Ok (record { symbol = symbol; number = n; mass = m; weight = w; valence = v })

-- what a record says by itself, or the first of its own faults
unfoldable pub row_of : ℕ → ℕ → List (List ℕ) → Result Row TableFault
row_of decimals record_number (symbol ∷ number ∷ mass ∷ abundance ∷ valence ∷ []) =
    if is_electron symbol then numbers_of decimals record_number electron_ranges symbol number mass abundance valence
    else (if is_symbol symbol then numbers_of decimals record_number isotope_ranges symbol number mass abundance valence
    else Err (fault.Symbol record_number))
row_of decimals record_number fields = Err (fault.FieldCount record_number)

-- the table of a file's records: the header stands first
abbrev pub table_of_records : List (List (List ℕ)) → Result TableEntries TableFault
table_of_records records =
    or_fault (fault.Header 1) (abundance_decimals records)
    >>= λ decimals. rows_after (row_of decimals) fault_after 2 [] (drop 1 records)
    >>= table_of_rows

-- the table that bytes stand for, or the first fault
abbrev pub table_of : List ℕ → Result TableEntries TableFault
table_of bytes = table_of_records (file_records bytes)
