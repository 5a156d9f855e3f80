-- The faults of a table file: which of them is want of memory, and what a note says of each.
use Rattle.std.specs.Prelude.{ℕ, Bool, true, false, List, ◌++◌, codes}
use Rattle.element_table.specs.RecordWords.{record_words}
use Rattle.element_table.specs.declared.fault.TableFault.{TableFault}
use Rattle.element_table.specs.declared.fault.TableFault.TheVariants as fault

-- whether it is want of memory
abbrev pub is_memory : TableFault → Bool
is_memory (fault.Memory e) = true
is_memory other = false

-- what a note says of a fault of the table file, behind `isoform: table: `
abbrev pub table_fault_words : TableFault → List ℕ
table_fault_words (fault.Header record_number) = record_words record_number (codes "header")
table_fault_words (fault.FieldCount record_number) = record_words record_number (codes "field count")
table_fault_words (fault.Symbol record_number) = record_words record_number (codes "symbol")
table_fault_words (fault.MassNumber record_number) = record_words record_number (codes "mass number")
table_fault_words (fault.Mass record_number) = record_words record_number (codes "mass")
table_fault_words (fault.Abundance record_number) = record_words record_number (codes "abundance")
table_fault_words (fault.Valence record_number) = record_words record_number (codes "valence")
table_fault_words (fault.Repeated record_number) = record_words record_number (codes "repeated")
table_fault_words (fault.TooManyElements record_number) = record_words record_number (codes "too many elements")
table_fault_words (fault.TooManyIsotopes record_number) = record_words record_number (codes "too many isotopes")
table_fault_words fault.NoElectron = codes "no electron"
table_fault_words (fault.NoWeight symbol) = codes "no weight: " ++ symbol
table_fault_words (fault.Memory e) = codes "memory"
