-- The faults of a certificate's text: which of them is want of memory, and what a note says of each.
use Rattle.std.specs.Prelude.{ℕ, Bool, true, false, List, ◌++◌, codes}
use Rattle.std.specs.Fmt.{decimal}
use Rattle.certificate_text.specs.declared.fault.CertificateFault.{CertificateFault}
use Rattle.certificate_text.specs.declared.fault.CertificateFault.TheVariants.{BadLine, FormulaLine, NumberLine}
use Rattle.certificate_text.specs.declared.fault.CertificateFault.TheVariants.{EndMissing, Memory}

-- whether it is want of memory
abbrev pub is_memory : CertificateFault → Bool
is_memory (Memory e) = true
is_memory other = false

-- what a note says of a fault of a certificate's text, behind `isoform: certificate text: `
abbrev pub certificate_fault_words : CertificateFault → List ℕ
certificate_fault_words (BadLine line) = codes "bad line " ++ decimal line
certificate_fault_words FormulaLine = codes "formula line"
certificate_fault_words (NumberLine line) = codes "number line " ++ decimal line
certificate_fault_words EndMissing = codes "end missing"
certificate_fault_words (Memory e) = codes "memory"
