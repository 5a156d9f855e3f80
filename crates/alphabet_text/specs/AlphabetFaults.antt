-- The faults of an alphabet's text: which of them is want of memory, and what a note says of each.
use Rattle.std.specs.Prelude.{ℕ, Bool, true, false, List, ◌++◌, codes}
use Rattle.std.specs.Fmt.{decimal}
use Rattle.alphabet_text.specs.declared.fault.AlphabetFault.{AlphabetFault}
use Rattle.alphabet_text.specs.declared.fault.AlphabetFault.TheVariants as fault

-- whether it is want of memory
abbrev pub is_memory : AlphabetFault → Bool
is_memory fault.Memory = true
is_memory other = false

-- what a note says of a fault of the alphabet, behind `isoform: alphabet: `
abbrev pub alphabet_fault_words : AlphabetFault → List ℕ
alphabet_fault_words (fault.BadText place) = codes "bad text at " ++ decimal place
alphabet_fault_words (fault.UnknownSymbol place) = codes "unknown symbol at " ++ decimal place
alphabet_fault_words (fault.Repeated place) = codes "repeated at " ++ decimal place
alphabet_fault_words (fault.EmptyRange place) = codes "empty range at " ++ decimal place
alphabet_fault_words fault.TooMany = codes "too many"
alphabet_fault_words fault.Memory = codes "memory"
