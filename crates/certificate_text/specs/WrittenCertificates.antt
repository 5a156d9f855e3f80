-- The text that is written of a certificate.
use Rattle.std.specs.Prelude.{ℕ, ◌≤◌, Bool, nat_le, List, [], ◌∷◌, ◌++◌, map, All, IsTrue}
use Rattle.std.specs.List.{flat_map, list_all}
use Rattle.std.specs.Fmt.{decimal}
use Rattle.formula_text.specs.Formulas.{IsFormula}
use Rattle.formula_text.specs.PrintedText.{printed_text}
use Rattle.certificate_text.specs.Certificates.{CertificateEntries}
use Rattle.certificate_text.specs.CertificateLines.{title, formula_word, coverage_word, size_word, bound_word}
use Rattle.certificate_text.specs.CertificateLines.{threshold_word, end_line, listed_line, most_number}

-- its first six lines: the formula as it is printed, and the numbers in digits
abbrev pub head_lines : CertificateEntries → List (List ℕ)
head_lines value = title ∷ (formula_word ++ printed_text value.formula) ∷ (coverage_word ++ decimal value.coverage)
    ∷ (size_word ++ decimal value.size) ∷ (bound_word ++ decimal value.bound)
    ∷ (threshold_word ++ decimal value.threshold) ∷ []

-- all its lines: behind those, one for each listed isotopologue, and the line `end`
abbrev pub written_lines : CertificateEntries → List (List ℕ)
written_lines value = head_lines value ++ (map listed_line value.lines ++ end_line ∷ [])

-- a line with the line feed that ends it
abbrev pub ended : List ℕ → List ℕ
ended line = line ++ 10 ∷ []

-- the lines, each with its end
abbrev pub written_text : CertificateEntries → List ℕ
written_text value = flat_map ended (written_lines value)

-- a text without control characters, as line feeds and carriage returns are
abbrev pub is_plain_text : List ℕ → Bool
is_plain_text text = list_all (λ byte. nat_le 32 byte) text

-- what can be read again: the formula is one, no number is above 10^18, and no listed text has control characters
pub record IsWritable (value : CertificateEntries) : Type 0 where
  pub formula : IsFormula value.formula
  pub coverage : value.coverage ≤ most_number
  pub size : value.size ≤ most_number
  pub bound : value.bound ≤ most_number
  pub threshold : value.threshold ≤ most_number
  pub texts : All (λ line. IsTrue (is_plain_text line.text)) value.lines
