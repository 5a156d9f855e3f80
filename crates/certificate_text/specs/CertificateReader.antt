-- The one answer that `CertificateReading` allows, computed line by line; the layers above compute with it.
use Rattle.std.specs.Prelude.{ℕ, ◌+◌, ◌==◌, List, [], ◌∷◌, ◌++◌, length, Option, Some, None, Result, Ok, Err}
use Rattle.std.specs.Prelude.{if◌then◌else◌}
use Rattle.std.specs.Str.{bytes_eq}
use Rattle.std.specs.Str.Lines.{lines}
use Rattle.reader_answers.specs.Answers.{unless_fault, ◌>>=◌}
use Rattle.element_table.specs.Elements.{TableEntries}
use Rattle.certificate_text.specs.Certificates.{CertLineEntry}
use Rattle.certificate_text.specs.CertificateLines.{title, coverage_word, size_word, bound_word, threshold_word}
use Rattle.certificate_text.specs.CertificateReadings.{Answer, entry_line, formula_line, is_end, number_line}
use Rattle.certificate_text.specs.declared.fault.CertificateFault.{CertificateFault}
use Rattle.certificate_text.specs.declared.fault.CertificateFault.TheVariants.{BadLine, EndMissing}

-- what the next line of a file says, and the lines behind it
abbrev pub next_line : {A : Type 0} → (List ℕ → Result A CertificateFault) → List (List ℕ)
    → Result (A × List (List ℕ)) CertificateFault
next_line says [] = Err EndMissing
next_line says (line ∷ rest) = says line >>= λ value. Ok (value, rest)

-- the lines behind the first one
abbrev pub behind_title : List (List ℕ) → Result (List (List ℕ)) CertificateFault
behind_title [] = Err EndMissing
behind_title (line ∷ rest) = if bytes_eq line title then Ok rest else Err (BadLine 1)

-- the fault of the lines from this number on, which stand behind `end`
abbrev pub fault_behind_end : ℕ → List (List ℕ) → Option CertificateFault
fault_behind_end number [] = None
fault_behind_end number (line ∷ rest) =
    if length line == 0 then fault_behind_end (number + 1) rest else Some (BadLine number)

-- the isotopologues that are listed from the line of this number on, behind earlier ones
abbrev pub listed_after : ℕ → List CertLineEntry → List (List ℕ) → Result (List CertLineEntry) CertificateFault
listed_after number earlier [] = Err EndMissing
listed_after number earlier (line ∷ rest) =
    if is_end line then unless_fault (fault_behind_end (number + 1) rest) (Ok earlier)
    else (entry_line number line >>= λ entry. listed_after (number + 1) (earlier ++ entry ∷ []) rest)

-- the certificate of the lines of a file, or the first fault
unfoldable pub certificate_in : TableEntries → List (List ℕ) → Answer
certificate_in table file =
    behind_title file >>= λ rest.
    next_line (formula_line table) rest >>= λ formula.
    next_line (number_line 3 coverage_word) formula.1 >>= λ coverage.
    next_line (number_line 4 size_word) coverage.1 >>= λ size.
    next_line (number_line 5 bound_word) size.1 >>= λ bound.
    next_line (number_line 6 threshold_word) bound.1 >>= λ threshold.
    listed_after 7 [] threshold.1 >>= λ listed.
    Ok (record {
      formula = formula.0;
      coverage = coverage.0;
      size = size.0;
      bound = bound.0;
      threshold = threshold.0;
      lines = listed;
    })

-- the certificate of the bytes of a file, or the first fault
abbrev pub certificate_of : TableEntries → List ℕ → Answer
certificate_of table bytes = certificate_in table (lines bytes)
