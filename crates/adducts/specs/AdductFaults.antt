-- The faults of an adduct's text: which of them is want of memory, and what a note says of each.
use Rattle.std.specs.Prelude.{ℕ, Bool, true, false, List, ◌++◌, codes}
use Rattle.std.specs.Fmt.{decimal}
use Rattle.adducts.specs.declared.fault.AdductFault.{AdductFault}
use Rattle.adducts.specs.declared.fault.AdductFault.TheVariants as fault

-- whether it is want of memory
abbrev pub is_memory : AdductFault → Bool
is_memory fault.Memory = true
is_memory other = false

-- what a note says of a fault of the adduct, behind `isoform: adduct: `
abbrev pub adduct_fault_words : AdductFault → List ℕ
adduct_fault_words (fault.BadText place) = codes "bad text at " ++ decimal place
adduct_fault_words (fault.UnknownSymbol place) = codes "unknown symbol at " ++ decimal place
adduct_fault_words fault.TooManyAtoms = codes "too many atoms"
adduct_fault_words fault.TooManyElements = codes "too many elements"
adduct_fault_words fault.Copies = codes "copies"
adduct_fault_words fault.Charge = codes "charge"
adduct_fault_words fault.Memory = codes "memory"
