-- The lines of a certificate's text are read as its certificate, or as the first fault.
use Rattle.std.proofs.Common.{◌≡◌, ℕ, ◌+◌, ◌<◌, ◌≤◌, ◌==◌, true, false, cond, List, [], ◌∷◌, ◌++◌, length, map}
use Rattle.std.proofs.Common.{Option, Some, None, Result, Ok, Err, inl, inr, refl, sym, ◌∙◌, ap, subst, append_assoc}
use Rattle.std.proofs.Common.{arith}
use Rattle.std.proofs.Common.{length-append}
use Rattle.std.specs.Prelude.{All}
use Rattle.std.specs.Str.{bytes_eq}
use Rattle.std.proofs.lemmas.List.{append-nil}
use Rattle.std.proofs.lemmas.List.Elements.{All-nil, All-push}
use Rattle.std.proofs.lemmas.Bool.{cases_Bool}
use Rattle.std.proofs.lemmas.Slice.Eq.{bytes_eq-Decides}
use Rattle.reader_answers.specs.Answers.{◌>>=◌, or_fault, unless_fault}
use Rattle.element_table.specs.Elements.{TableEntries}
use Rattle.written_items.specs.declared.item.Item.{Item}
use Rattle.formula_text.specs.FormulaReader.{read_of}
use Rattle.fixed_decimal.specs.Decimal.{whole_number}
use Rattle.certificate_text.specs.Certificates.{CertLineEntry, CertificateEntries}
use Rattle.certificate_text.specs.CertificateLines.{title, formula_word, coverage_word, size_word, bound_word}
use Rattle.certificate_text.specs.CertificateLines.{threshold_word, end_line, listed_line, behind, most_number}
use Rattle.certificate_text.specs.CertificateReadings.{Answer, CertificateReading, IsCertificate, SaysNumber, accepted}
use Rattle.certificate_text.specs.CertificateReadings.{entry_line, fault_in, formula_line, is_end}
use Rattle.certificate_text.specs.CertificateReadings.{line_fault, listed_entry, number_line}
use Rattle.certificate_text.specs.CertificateReader.{certificate_in, fault_behind_end, listed_after}
use Rattle.certificate_text.specs.CertificateReader.{next_line}
use Rattle.certificate_text.specs.declared.fault.CertificateFault.{CertificateFault}
use Rattle.certificate_text.specs.declared.fault.CertificateFault.TheVariants.{BadLine}
use Rattle.certificate_text.specs.declared.fault.CertificateFault.TheVariants.{NumberLine}
use Rattle.certificate_text.proofs.FaultPlaces.{SoFar, so-push, still-open, none-so, first-fault, lacks-end, later-line}
use Rattle.certificate_text.proofs.FaultPlaces.{line-behind-end}
use Rattle.certificate_text.proofs.ListedLines.{behind-spelled, entry-spelled}
use Rattle.certificate_text.proofs.ListedLines.{map-push}
use Rattle.certificate_text.proofs.ListedSoFar.{behind_head, so-listed, so-ended, so-empty}

-- a line of the head by what it says
next-said : {A : Type 0} (table : TableEntries) (done : List (List ℕ)) (number : ℕ) → SoFar table done number false
    → length done < 6 → (says : List ℕ → Result A CertificateFault)
    → ((line : List ℕ) → line_fault table number false line ≡ fault_in (says line))
    → (next : A × List (List ℕ) → Answer) → (line : List ℕ) (rest : List (List ℕ))
    → ((value : A) → says line ≡ Ok value → SoFar table (done ++ line ∷ []) (number + 1) false
    → CertificateReading table (done ++ line ∷ rest) (next (value, rest)))
    → (r : Result A CertificateFault) → says line ≡ r
    → CertificateReading table (done ++ line ∷ rest) ((r >>= λ value. Ok (value, rest)) >>= next)
next-said table done number so few says fault next line rest go (Ok value) is =
    go value is
    (so-push table done line number false false so (fault line ∙ ap fault_in is)
    (still-open (done ++ line ∷ []) (omega (arith, length-append done (line ∷ [])))))
next-said table done number so few says fault next line rest go (Err told) is =
    inl (first-fault table (done ++ line ∷ rest) done line rest number false told so refl (fault line ∙ ap fault_in is))

next-read : {A : Type 0} (table : TableEntries) (done : List (List ℕ)) (number : ℕ) → SoFar table done number false
    → length done < 6 → (says : List ℕ → Result A CertificateFault)
    → ((line : List ℕ) → line_fault table number false line ≡ fault_in (says line))
    → (next : A × List (List ℕ) → Answer) → (file : List (List ℕ))
    → ((line : List ℕ) (rest : List (List ℕ)) (value : A) → says line ≡ Ok value
    → SoFar table (done ++ line ∷ []) (number + 1) false
    → CertificateReading table (done ++ line ∷ rest) (next (value, rest)))
    → CertificateReading table (done ++ file) (next_line says file >>= next)
next-read table done number so few says fault next [] go =
    inr (lacks-end table (done ++ []) done number so (append-nil done))
next-read table done number so few says fault next (line ∷ rest) go =
    next-said table done number so few says fault next line rest (go line rest) (says line) refl

-- what a number line and the formula line spell
number-tested : (number : ℕ) (word line : List ℕ) (value : ℕ) (o : Option (List ℕ)) → behind word line ≡ o
    → (or_fault (BadLine number) o >>= λ text. or_fault (NumberLine number) (whole_number most_number text)) ≡ Ok value
    → (text : List ℕ) × (line ≡ word ++ text) × SaysNumber text value
number-tested number word line value None is e = absurd (cc)
number-tested number word line value (Some text) is e =
    (text, behind-spelled word line text is, told (whole_number most_number text) e)
  where
    told : (o : Option ℕ) → or_fault (NumberLine number) o ≡ Ok value → o ≡ Some value
    told None e = absurd (cc)
    told (Some n) e = cc

number-spelled : (number : ℕ) (word line : List ℕ) (value : ℕ) → number_line number word line ≡ Ok value
    → (text : List ℕ) × (line ≡ word ++ text) × SaysNumber text value
number-spelled number word line value e = number-tested number word line value (behind word line) refl e

formula-tested : (table : TableEntries) (line : List ℕ) (value : List (Item × ℕ)) (o : Option (List ℕ))
    → behind formula_word line ≡ o
    → (or_fault (BadLine 2) o >>= λ text. accepted (read_of table text)) ≡ Ok value
    → (text : List ℕ) × (line ≡ formula_word ++ text) × (read_of table text ≡ Ok value)
formula-tested table line value None is e = absurd (cc)
formula-tested table line value (Some text) is e =
    (text, behind-spelled formula_word line text is, told (read_of table text) e)
  where
    told : {E : Type 0} (r : Result (List (Item × ℕ)) E) → accepted r ≡ Ok value → r ≡ Ok value
    told (Ok f) e = cc
    told (Err f) e = absurd (cc)

formula-spelled : (table : TableEntries) (line : List ℕ) (value : List (Item × ℕ)) → formula_line table line ≡ Ok value
    → (text : List ℕ) × (line ≡ formula_word ++ text) × (read_of table text ≡ Ok value)
formula-spelled table line value e = formula-tested table line value (behind formula_word line) refl e

-- the lines from the seventh on, behind six others
module _ (table : TableEntries) (a b c d e f : List ℕ) (make : List CertLineEntry → CertificateEntries)
    (whole : (listed : List CertLineEntry) (empty : List (List ℕ)) → All (λ line. line ≡ []) empty
    → IsCertificate table (a ∷ b ∷ c ∷ d ∷ e ∷ f ∷ (map listed_line listed ++ end_line ∷ empty)) (make listed)) where
  pub behind-end : (listed : List CertLineEntry) (rest blank : List (List ℕ)) (number : ℕ) → 7 ≤ number
      → All (λ line. line ≡ []) blank
      → SoFar table (behind_head a b c d e f (map listed_line listed ++ end_line ∷ blank)) number true
      → CertificateReading table (behind_head a b c d e f (map listed_line listed ++ end_line ∷ (blank ++ rest)))
      (unless_fault (fault_behind_end number rest) (Ok listed) >>= λ lines. Ok (make lines))
  behind-end listed [] blank number late all so =
      subst (λ (empty : List (List ℕ)). IsCertificate table (behind_head a b c d e f
      (map listed_line listed ++ end_line ∷ empty)) (make listed))
      (sym (append-nil blank)) (whole listed blank all)
  behind-end listed ([] ∷ rest) blank number late all so =
      subst (λ (lines : List (List ℕ)). CertificateReading table
      (behind_head a b c d e f (map listed_line listed ++ end_line ∷ lines))
      (unless_fault (fault_behind_end (number + 1) rest) (Ok listed) >>= λ lines. Ok (make lines)))
      (append_assoc blank ([] ∷ []) rest)
      (behind-end listed rest (blank ++ [] ∷ []) (number + 1) (omega arith)
      (All-push (λ line. line ≡ []) blank [] all refl) (so-empty table a b c d e f listed blank number late so))
  behind-end listed ((byte ∷ bytes) ∷ rest) blank number late all so =
      let some : (length (byte ∷ bytes) == 0) ≡ false = grind arith in
      let parts : behind_head a b c d e f (map listed_line listed ++ end_line ∷ (blank ++ (byte ∷ bytes) ∷ rest))
      ≡ behind_head a b c d e f (map listed_line listed ++ end_line ∷ blank) ++ (byte ∷ bytes) ∷ rest =
      ap (behind_head a b c d e f) (sym (append_assoc (map listed_line listed) (end_line ∷ blank)
      ((byte ∷ bytes) ∷ rest))) in
      let told = inl (first-fault table _ (behind_head a b c d e f (map listed_line listed ++ end_line ∷ blank))
      (byte ∷ bytes) rest number true
      (BadLine number) so parts (line-behind-end table number (byte ∷ bytes) late some)) in
      rw some told

  -- a line behind others, by its tests
  listed-entry : (line : List ℕ) (rest : List (List ℕ)) (listed : List CertLineEntry) (number : ℕ) → 7 ≤ number
      → SoFar table (behind_head a b c d e f (map listed_line listed)) number false → is_end line ≡ false
      → ((entry : CertLineEntry) → line ≡ listed_line entry
      → CertificateReading table (behind_head a b c d e f (map listed_line listed ++ line ∷ rest))
      (listed_after (number + 1) (listed ++ entry ∷ []) rest >>= λ lines. Ok (make lines)))
      → (o : Option CertLineEntry) → listed_entry line ≡ o
      → CertificateReading table (behind_head a b c d e f (map listed_line listed ++ line ∷ rest))
      ((or_fault (BadLine number) o >>= λ entry. listed_after (number + 1) (listed ++ entry ∷ []) rest)
      >>= λ lines. Ok (make lines))
  listed-entry line rest listed number late so other go None is =
      inl (first-fault table (behind_head a b c d e f (map listed_line listed ++ line ∷ rest))
      (behind_head a b c d e f (map listed_line listed)) line rest number
      false (BadLine number) so refl
      (later-line table number line late other
      ∙ ap (λ (o : Option CertLineEntry). fault_in (or_fault (BadLine number) o)) is))
  listed-entry line rest listed number late so other go (Some entry) is = go entry (entry-spelled line entry is)

  pub listed-read : (rest : List (List ℕ)) (listed : List CertLineEntry) (number : ℕ) → 7 ≤ number
      → SoFar table (behind_head a b c d e f (map listed_line listed)) number false
      → CertificateReading table (behind_head a b c d e f (map listed_line listed ++ rest))
      (listed_after number listed rest >>= λ lines. Ok (make lines))
  listed-read [] listed number late so =
      inr (lacks-end table (behind_head a b c d e f (map listed_line listed ++ []))
      (behind_head a b c d e f (map listed_line listed)) number so
      (ap (behind_head a b c d e f) (append-nil (map listed_line listed))))
  listed-read (line ∷ rest) listed number late so =
      elim (is_end line) as
      (λ test. is_end line ≡ test → CertificateReading table (behind_head a b c d e f
      (map listed_line listed ++ line ∷ rest))
      (cond test (unless_fault (fault_behind_end (number + 1) rest) (Ok listed))
      (entry_line number line >>= λ entry. listed_after (number + 1) (listed ++ entry ∷ []) rest)
      >>= λ lines. Ok (make lines))) [
        | true ↦ λ is.
            let same : line ≡ end_line = (bytes_eq-Decides line end_line).0 is in
            subst (λ (end : List ℕ). CertificateReading table
            (behind_head a b c d e f (map listed_line listed ++ end ∷ rest))
            (unless_fault (fault_behind_end (number + 1) rest) (Ok listed) >>= λ lines. Ok (make lines))) (sym same)
            (behind-end listed rest [] (number + 1) (omega arith) (All-nil (λ line. line ≡ []))
            (so-ended table a b c d e f listed number late so))
        | false ↦ λ is.
            listed-entry line rest listed number late so is
            (λ entry spelled.
            let parts : map listed_line (listed ++ entry ∷ []) ++ rest ≡ map listed_line listed ++ line ∷ rest =
            ap (λ (lines : List (List ℕ)). lines ++ rest) (map-push listed entry)
            ∙ append_assoc (map listed_line listed) (listed_line entry ∷ []) rest
            ∙ ap (λ (l : List ℕ). map listed_line listed ++ l ∷ rest) (sym spelled) in
            subst (λ (lines : List (List ℕ)). CertificateReading table (behind_head a b c d e f lines)
            (listed_after (number + 1) (listed ++ entry ∷ []) rest >>= λ lines. Ok (make lines))) parts
            (listed-read rest (listed ++ entry ∷ []) (number + 1) (omega arith)
            (so-listed table a b c d e f listed entry number late so)))
            (listed_entry line) refl
      ] refl

-- equal lines
six-lines : (a b c d e f t u v w x y : List ℕ) (rest : List (List ℕ)) → a ≡ t → b ≡ u → c ≡ v → d ≡ w → e ≡ x → f ≡ y
    → a ∷ b ∷ c ∷ d ∷ e ∷ f ∷ rest ≡ t ∷ u ∷ v ∷ w ∷ x ∷ y ∷ rest
six-lines a b c d e f t u v w x y rest at bu cv dw ex fy = cc

-- the lines behind the title
behind-title : (table : TableEntries) (head : List ℕ) (file : List (List ℕ)) → head ≡ title
    → SoFar table (head ∷ []) 2 false
    → CertificateReading table (head ∷ file) (certificate_in table (title ∷ file))
unfolding certificate_in
behind-title table head file is so =
    next-read table (head ∷ []) 2 so (omega arith) (formula_line table) (λ line. refl) _ file
    (λ b rest formula formula_at so.
    next-read table (head ∷ b ∷ []) 3 so (omega arith) (number_line 3 coverage_word) (λ line. refl) _ rest
    (λ c rest coverage coverage_at so.
    next-read table (head ∷ b ∷ c ∷ []) 4 so (omega arith) (number_line 4 size_word) (λ line. refl) _ rest
    (λ d rest size size_at so.
    next-read table (head ∷ b ∷ c ∷ d ∷ []) 5 so (omega arith) (number_line 5 bound_word) (λ line. refl) _ rest
    (λ e rest bound bound_at so.
    next-read table (head ∷ b ∷ c ∷ d ∷ e ∷ []) 6 so (omega arith) (number_line 6 threshold_word) (λ line. refl) _ rest
    (λ f rest threshold threshold_at so.
    let formula_says = formula-spelled table b formula formula_at in
    let coverage_says = number-spelled 3 coverage_word c coverage coverage_at in
    let size_says = number-spelled 4 size_word d size size_at in
    let bound_says = number-spelled 5 bound_word e bound bound_at in
    let threshold_says = number-spelled 6 threshold_word f threshold threshold_at in
    listed-read table head b c d e f
    (λ listed. record {
      formula = formula;
      coverage = coverage;
      size = size;
      bound = bound;
      threshold = threshold;
      lines = listed;
    })
    (λ listed empty all. record {
      formula = formula_says.0;
      coverage = coverage_says.0;
      size = size_says.0;
      bound = bound_says.0;
      threshold = threshold_says.0;
      empty = empty;
      spelled = six-lines head b c d e f _ _ _ _ _ _ (map listed_line listed ++ end_line ∷ empty) is formula_says.1
          coverage_says.1 size_says.1 bound_says.1 threshold_says.1;
      formula_is = formula_says.2;
      coverage_is = coverage_says.2;
      size_is = size_says.2;
      bound_is = bound_says.2;
      threshold_is = threshold_says.2;
      are_empty = all;
    })
    rest [] 7 (omega arith) so)))))

-- the lines of a file have the reading that is computed
pub reading-file : (table : TableEntries) (file : List (List ℕ))
    → CertificateReading table file (certificate_in table file)
unfolding certificate_in
reading-file table [] = inr (lacks-end table [] [] 1 (none-so table) refl)
reading-file table (line ∷ rest) =
    elim (cases_Bool (bytes_eq line title)) [
      | inl is ↦
          let same : line ≡ title = (bytes_eq-Decides line title).0 is in
          let so : SoFar table (line ∷ []) 2 false =
          so-push table [] line 1 false false (none-so table) (rw is refl) refl in
          subst (λ (head : List ℕ). CertificateReading table (line ∷ rest) (certificate_in table (head ∷ rest)))
          (sym same)
          (behind-title table line rest same so)
      | inr other ↦
          let answer : certificate_in table (line ∷ rest) ≡ Err (BadLine 1) = rw other refl in
          subst (CertificateReading table (line ∷ rest)) (sym answer)
          (inl (first-fault table (line ∷ rest) [] line rest 1 false (BadLine 1) (none-so table) refl (rw other refl)))
    ]
