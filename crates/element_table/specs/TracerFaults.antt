-- The faults of a tracer file: which of them is want of memory, and what a note says of each.
use Rattle.std.specs.Prelude.{ℕ, Bool, true, false, List, ◌++◌, codes}
use Rattle.element_table.specs.RecordWords.{record_words}
use Rattle.element_table.specs.declared.tracer_fault.TracerFault.{TracerFault}
use Rattle.element_table.specs.declared.tracer_fault.TracerFault.TheVariants as fault

-- whether it is want of memory
abbrev pub is_memory : TracerFault → Bool
is_memory (fault.Memory e) = true
is_memory other = false

-- what a note says of a fault of the tracer file, behind `isoform: tracer: `
abbrev pub tracer_fault_words : TracerFault → List ℕ
tracer_fault_words (fault.Header record_number) = record_words record_number (codes "header")
tracer_fault_words (fault.FieldCount record_number) = record_words record_number (codes "field count")
tracer_fault_words (fault.Symbol record_number) = record_words record_number (codes "symbol")
tracer_fault_words (fault.MassNumber record_number) = record_words record_number (codes "mass number")
tracer_fault_words (fault.Abundance record_number) = record_words record_number (codes "abundance")
tracer_fault_words (fault.Repeated record_number) = record_words record_number (codes "repeated")
tracer_fault_words (fault.NoWeight symbol) = codes "no weight: " ++ symbol
tracer_fault_words (fault.Memory e) = codes "memory"
