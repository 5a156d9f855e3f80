-- The lines of a certificate's text without a fault, from the seventh on.
use Rattle.std.proofs.Common.{◌≡◌, ℕ, ◌+◌, ◌≤◌, true, false, List, [], ◌∷◌, ◌++◌, map, Option, None, refl, sym}
use Rattle.std.proofs.Common.{◌∙◌, ap, subst, append_assoc}
use Rattle.std.proofs.lemmas.List.Folds.{list_any-append}
use Rattle.std.proofs.lemmas.Bool.{or_left, or_right}
use Rattle.reader_answers.specs.Answers.{or_fault}
use Rattle.element_table.specs.Elements.{TableEntries}
use Rattle.certificate_text.specs.Certificates.{CertLineEntry}
use Rattle.certificate_text.specs.CertificateLines.{end_line, listed_line}
use Rattle.certificate_text.specs.CertificateReadings.{fault_in, has_ended, is_end, line_fault}
use Rattle.certificate_text.specs.declared.fault.CertificateFault.TheVariants.{BadLine}
use Rattle.certificate_text.proofs.FaultPlaces.{SoFar, so-push, later-line, end-line, empty-line}
use Rattle.certificate_text.proofs.ListedLines.{entry-listed, listed-open, all-listed-open, map-push}

-- lines behind six others
abbrev pub behind_head : List ℕ → List ℕ → List ℕ → List ℕ → List ℕ → List ℕ → List (List ℕ) → List (List ℕ)
behind_head a b c d e f lines = a ∷ b ∷ c ∷ d ∷ e ∷ f ∷ lines

module _ (table : TableEntries) (a b c d e f : List ℕ) where
  -- one more listed isotopologue
  pub so-listed : (listed : List CertLineEntry) (entry : CertLineEntry) (number : ℕ) → 7 ≤ number
      → SoFar table (behind_head a b c d e f (map listed_line listed)) number false
      → SoFar table (behind_head a b c d e f (map listed_line (listed ++ entry ∷ []))) (number + 1) false
  so-listed listed entry number late so =
      let parts : behind_head a b c d e f (map listed_line (listed ++ entry ∷ []))
      ≡ behind_head a b c d e f (map listed_line listed) ++ listed_line entry ∷ [] =
      ap (behind_head a b c d e f) (map-push listed entry) in
      let right : line_fault table number false (listed_line entry) ≡ None =
      later-line table number (listed_line entry) late (listed-open entry)
      ∙ ap (λ (o : Option CertLineEntry). fault_in (or_fault (BadLine number) o)) (entry-listed entry) in
      subst (λ (lines : List (List ℕ)). SoFar table lines (number + 1) false) (sym parts)
      (so-push table (behind_head a b c d e f (map listed_line listed)) (listed_line entry) number false false so right
      (ap has_ended (sym parts) ∙ all-listed-open (listed ++ entry ∷ [])))

  -- the line `end`
  pub so-ended : (listed : List CertLineEntry) (number : ℕ) → 7 ≤ number
      → SoFar table (behind_head a b c d e f (map listed_line listed)) number false
      → SoFar table (behind_head a b c d e f (map listed_line listed ++ end_line ∷ [])) (number + 1) true
  so-ended listed number late so =
      so-push table (behind_head a b c d e f (map listed_line listed)) end_line number false true so
      (end-line table number end_line late refl)
      (list_any-append is_end (map listed_line listed) (end_line ∷ []) ∙ or_right _ _ refl)

  -- an empty line behind it
  pub so-empty : (listed : List CertLineEntry) (blank : List (List ℕ)) (number : ℕ) → 7 ≤ number
      → SoFar table (behind_head a b c d e f (map listed_line listed ++ end_line ∷ blank)) number true
      → SoFar table (behind_head a b c d e f (map listed_line listed ++ end_line ∷ (blank ++ [] ∷ []))) (number + 1)
      true
  so-empty listed blank number late so =
      let parts : (map listed_line listed ++ end_line ∷ blank) ++ [] ∷ []
      ≡ map listed_line listed ++ end_line ∷ (blank ++ [] ∷ []) =
      append_assoc (map listed_line listed) (end_line ∷ blank) ([] ∷ []) in
      subst (λ (lines : List (List ℕ)). SoFar table lines (number + 1) true) (ap (behind_head a b c d e f) parts)
      (so-push table (behind_head a b c d e f (map listed_line listed ++ end_line ∷ blank)) [] number true true so
      (empty-line table number late)
      (list_any-append is_end (map listed_line listed ++ end_line ∷ blank) ([] ∷ []) ∙ or_left _ _ so.ended_is))
