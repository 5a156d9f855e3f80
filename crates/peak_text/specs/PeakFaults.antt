-- The faults of a peak file: which of them is want of memory, and what a note says of each.
use Rattle.std.specs.Prelude.{ℕ, Bool, true, false, List, ◌++◌, codes}
use Rattle.std.specs.Fmt.{decimal}
use Rattle.peak_text.specs.declared.fault.PeakFault.{PeakFault}
use Rattle.peak_text.specs.declared.fault.PeakFault.TheVariants as fault

-- whether it is want of memory
abbrev pub is_memory : PeakFault → Bool
is_memory (fault.Memory e) = true
is_memory other = false

-- the record of this number, and the cause in words
abbrev pub record_words : ℕ → List ℕ → List ℕ
record_words record_number cause = codes "record " ++ decimal record_number ++ (codes ": " ++ cause)

-- what a note says of a fault of the peak file, behind `isoform: peaks: `
abbrev pub peak_fault_words : PeakFault → List ℕ
peak_fault_words (fault.Header record_number) = record_words record_number (codes "header")
peak_fault_words (fault.FieldCount record_number) = record_words record_number (codes "field count")
peak_fault_words (fault.Mz record_number) = record_words record_number (codes "mz")
peak_fault_words (fault.Intensity record_number) = record_words record_number (codes "intensity")
peak_fault_words (fault.TooMany record_number) = record_words record_number (codes "too many")
peak_fault_words (fault.Memory e) = codes "memory"
