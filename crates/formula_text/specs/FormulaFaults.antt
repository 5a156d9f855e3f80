-- The faults of counts and of formula texts: which of them is want of memory, and what a note says of each.
use Rattle.std.specs.Prelude.{ℕ, Bool, true, false, List, ◌++◌, codes}
use Rattle.std.specs.Fmt.{decimal}
use Rattle.formula_text.specs.declared.fault.PartsFault.{PartsFault}
use Rattle.formula_text.specs.declared.fault.PartsFault.TheVariants as limit
use Rattle.formula_text.specs.declared.fault.FormulaFault.{FormulaFault}
use Rattle.formula_text.specs.declared.fault.FormulaFault.TheVariants as fault

-- whether a fault of counts is want of memory
abbrev pub is_parts_memory : PartsFault → Bool
is_parts_memory (limit.Memory e) = true
is_parts_memory other = false

-- whether a fault of a formula text is want of memory
abbrev pub is_memory : FormulaFault → Bool
is_memory (fault.Memory e) = true
is_memory other = false

-- a limit that is passed, as a fault of the text
abbrev pub fault_of : PartsFault → FormulaFault
fault_of limit.TooManyAtoms = fault.TooManyAtoms
fault_of limit.TooManyElements = fault.TooManyElements
fault_of (limit.Memory e) = fault.Memory e

-- what a note says of a fault of a formula text
abbrev pub formula_fault_words : FormulaFault → List ℕ
formula_fault_words (fault.BadText place) = codes "bad text at " ++ decimal place
formula_fault_words (fault.UnknownSymbol place) = codes "unknown symbol at " ++ decimal place
formula_fault_words (fault.UnknownIsotope place) = codes "unknown isotope at " ++ decimal place
formula_fault_words fault.TooManyAtoms = codes "too many atoms"
formula_fault_words fault.TooManyElements = codes "too many elements"
formula_fault_words fault.Empty = codes "empty"
formula_fault_words (fault.Memory e) = codes "memory"
