-- The lines of a certificate's text have one reading.
use Rattle.std.proofs.Common.{◌≡◌, ℕ, ◌+◌, ◌≤◌, Bool, true, false, List, [], ◌∷◌, ◌++◌, map, Option, Some}
use Rattle.std.proofs.Common.{None, Ok, Err, inl, inr, refl, sym, ◌∙◌, ap, subst, append_assoc, arith}
use Rattle.std.specs.Prelude.{All}
use Rattle.std.proofs.lemmas.List.{append-nil, append_cancel_left}
use Rattle.std.proofs.lemmas.List.Elements.{All-head, All-tail}
use Rattle.std.proofs.lemmas.Bool.{cases_order, true≢false}
use Rattle.reader_answers.specs.Answers.{or_fault}
use Rattle.element_table.specs.Elements.{TableEntries}
use Rattle.written_items.specs.declared.item.Item.{Item}
use Rattle.formula_text.specs.FormulaReader.{read_of}
use Rattle.fixed_decimal.specs.Decimal.{whole_number}
use Rattle.certificate_text.specs.Certificates.{CertLineEntry, CertificateEntries}
use Rattle.certificate_text.specs.CertificateLines.{end_line, listed_line, title, formula_word, coverage_word}
use Rattle.certificate_text.specs.CertificateLines.{size_word}
use Rattle.certificate_text.specs.CertificateLines.{bound_word, threshold_word, most_number}
use Rattle.certificate_text.specs.CertificateReadings.{Answer, CertificateReading, IsCertificate, IsFirstFault, IsRight}
use Rattle.certificate_text.specs.CertificateReadings.{SaysNumber, accepted, fault_at, fault_in, has_ended}
use Rattle.certificate_text.specs.CertificateReadings.{is_end, listed_entry}
use Rattle.certificate_text.specs.CertificateReader.{certificate_in}
use Rattle.certificate_text.specs.declared.fault.CertificateFault.{CertificateFault}
use Rattle.certificate_text.specs.declared.fault.CertificateFault.TheVariants.{NumberLine}
use Rattle.certificate_text.proofs.FaultPlaces.{SoFar, so-push, none-so}
use Rattle.certificate_text.proofs.ListedLines.{entry-listed, listed-open}
use Rattle.certificate_text.proofs.ListedSoFar.{behind_head, so-listed, so-ended, so-empty}
use Rattle.certificate_text.proofs.ReadLines.{reading-file}

-- the line behind lines without a fault, and no fault in them
pub record Reaches (table : TableEntries) (done : List (List ℕ)) (ended : Bool) : Type 0 where
  pub number : ℕ
  pub late : 7 ≤ number
  pub so : SoFar table done number ended

module _ (table : TableEntries) (a b c d e f : List ℕ) where
  through-listed : (listed more : List CertLineEntry)
      → Reaches table (behind_head a b c d e f (map listed_line listed)) false
      → Reaches table (behind_head a b c d e f (map listed_line (listed ++ more))) false
  through-listed listed [] reaches =
      subst (λ (l : List CertLineEntry). Reaches table (behind_head a b c d e f (map listed_line l)) false)
      (sym (append-nil listed)) reaches
  through-listed listed (entry ∷ more) reaches =
      subst (λ (l : List CertLineEntry). Reaches table (behind_head a b c d e f (map listed_line l)) false)
      (append_assoc listed (entry ∷ []) more)
      (through-listed (listed ++ entry ∷ []) more (record {
        number = reaches.number + 1;
        late = omega (arith, reaches.late);
        so = so-listed table a b c d e f listed entry reaches.number reaches.late reaches.so;
      }))

  through-empty : (listed : List CertLineEntry) (blank more : List (List ℕ)) → All (λ line. line ≡ []) more
      → Reaches table (behind_head a b c d e f (map listed_line listed ++ end_line ∷ blank)) true
      → Reaches table (behind_head a b c d e f (map listed_line listed ++ end_line ∷ (blank ++ more))) true
  through-empty listed blank [] all reaches =
      subst (λ (l : List (List ℕ)). Reaches table (behind_head a b c d e f (map listed_line listed ++ end_line ∷ l))
      true)
      (sym (append-nil blank)) reaches
  through-empty listed blank (line ∷ more) all reaches =
      let here : line ≡ [] = All-head (λ line. line ≡ []) line more all in
      subst (λ (l : List (List ℕ)). Reaches table (behind_head a b c d e f (map listed_line listed ++ end_line ∷ l))
      true)
      (append_assoc blank ([] ∷ []) more ∙ ap (λ (l : List ℕ). blank ++ l ∷ more) (sym here))
      (through-empty listed (blank ++ [] ∷ []) more (All-tail (λ line. line ≡ []) line more all) (record {
        number = reaches.number + 1;
        late = omega (arith, reaches.late);
        so = so-empty table a b c d e f listed blank reaches.number reaches.late reaches.so;
      }))

-- a line of a number, and that of the formula, has no fault
number-right : (number : ℕ) (text : List ℕ) (value : ℕ) (o : Option ℕ) → o ≡ Some value
    → fault_in (or_fault (NumberLine number) o) ≡ None
number-right number text value o is = ap (λ (p : Option ℕ). fault_in (or_fault (NumberLine number) p)) is

-- the six lines of the head
module _ (table : TableEntries) (t u v w x : List ℕ) (value : CertificateEntries)
    (formula_is : read_of table t ≡ Ok value.formula)
    (coverage_is : SaysNumber u value.coverage) (size_is : SaysNumber v value.size)
    (bound_is : SaysNumber w value.bound)
    (threshold_is : SaysNumber x value.threshold) where
  head-so : SoFar table (title ∷ (formula_word ++ t) ∷ (coverage_word ++ u) ∷ (size_word ++ v) ∷ (bound_word ++ w)
      ∷ (threshold_word ++ x) ∷ []) 7 false
  head-so =
      let one = so-push table [] title 1 false false (none-so table) refl refl in
      let two = so-push table (title ∷ []) (formula_word ++ t) 2 false false one
      (ap (λ r. fault_in (accepted r)) formula_is) refl in
      let three = so-push table (title ∷ (formula_word ++ t) ∷ []) (coverage_word ++ u) 3 false false two
      (number-right 3 u value.coverage _ coverage_is) refl in
      let four = so-push table (title ∷ (formula_word ++ t) ∷ (coverage_word ++ u) ∷ []) (size_word ++ v) 4 false
      false three
      (number-right 4 v value.size _ size_is) refl in
      let five = so-push table (title ∷ (formula_word ++ t) ∷ (coverage_word ++ u) ∷ (size_word ++ v) ∷ [])
      (bound_word ++ w)
      5 false false four (number-right 5 w value.bound _ bound_is) refl in
      so-push table (title ∷ (formula_word ++ t) ∷ (coverage_word ++ u) ∷ (size_word ++ v) ∷ (bound_word ++ w) ∷ [])
      (threshold_word ++ x) 6 false false five (number-right 6 x value.threshold _ threshold_is) refl

-- the lines of a certificate have no fault, and an end
pub certificate-so : (table : TableEntries) (file : List (List ℕ)) (value : CertificateEntries)
    → IsCertificate table file value
    → Reaches table file true
certificate-so table file value is =
    let a = title in
    let b : List ℕ = formula_word ++ is.formula in
    let c : List ℕ = coverage_word ++ is.coverage in
    let d : List ℕ = size_word ++ is.size in
    let e : List ℕ = bound_word ++ is.bound in
    let f : List ℕ = threshold_word ++ is.threshold in
    let head = head-so table is.formula is.coverage is.size is.bound is.threshold value is.formula_is is.coverage_is
    is.size_is is.bound_is is.threshold_is in
    let start : Reaches table (behind_head a b c d e f (map listed_line [])) false =
    record { number = 7; late = omega arith; so = head } in
    let listed : Reaches table (behind_head a b c d e f (map listed_line value.lines)) false =
    through-listed table a b c d e f [] value.lines start in
    let ended : Reaches table (behind_head a b c d e f (map listed_line value.lines ++ end_line ∷ [])) true = record {
      number = listed.number + 1;
      late = omega (arith, listed.late);
      so = so-ended table a b c d e f value.lines listed.number listed.late listed.so;
    } in
    subst (λ (lines : List (List ℕ)). Reaches table lines true) (sym is.spelled)
    (through-empty table a b c d e f value.lines [] is.empty is.are_empty ended)

-- the listed isotopologues of equal lines
one-listed : (xs ys : List CertLineEntry) (e g : List (List ℕ))
    → map listed_line xs ++ end_line ∷ e ≡ map listed_line ys ++ end_line ∷ g → xs ≡ ys
one-listed [] [] e g same = refl
one-listed [] (y ∷ ys) e g same =
    let first : end_line ≡ listed_line y = cc in
    absurd (true≢false (ap is_end first ∙ listed-open y))
one-listed (x ∷ xs) [] e g same =
    let first : listed_line x ≡ end_line = cc in
    absurd (true≢false (sym (ap is_end first) ∙ listed-open x))
one-listed (x ∷ xs) (y ∷ ys) e g same =
    let first : listed_line x ≡ listed_line y = cc in
    let rest : map listed_line xs ++ end_line ∷ e ≡ map listed_line ys ++ end_line ∷ g = cc in
    let entries : Some x ≡ Some y = sym (entry-listed x) ∙ ap listed_entry first ∙ entry-listed y in
    let entry : x ≡ y = cc in
    let more : xs ≡ ys = one-listed xs ys e g rest in
    cc

-- certificates of equal parts
one-of : (f g : List (Item × ℕ)) (c d s t b a h i : ℕ) (l m : List CertLineEntry) → f ≡ g → c ≡ d → s ≡ t → b ≡ a
    → h ≡ i → l ≡ m
    → (let value : CertificateEntries = record {
      formula = f;
      coverage = c;
      size = s;
      bound = b;
      threshold =
          h;
      lines = l;
    } in value)
    ≡ record { formula = g; coverage = d; size = t; bound = a; threshold = i; lines = m }
one-of f g c d s t b a h i l m fg cd st ba hi lm = rw (fg, cd, st, ba, hi, lm) refl

-- a text says one number
one-number : (s t : List ℕ) (m n : ℕ) → SaysNumber s m → SaysNumber t n → s ≡ t → m ≡ n
one-number s t m n says says_too same =
    let both : Some m ≡ Some n = sym says ∙ ap (whole_number most_number) same ∙ says_too in
    cc

one-formula : (table : TableEntries) (s t : List ℕ) (f g : List (Item × ℕ)) → read_of table s ≡ Ok f → read_of table t
    ≡ Ok g
    → s ≡ t → f ≡ g
one-formula table s t f g is is_too same =
    let both = sym is ∙ ap (read_of table) same ∙ is_too in
    cc

-- lines are those of one certificate
one-certificate : (table : TableEntries) (file : List (List ℕ)) (v w : CertificateEntries) → IsCertificate table file v
    → IsCertificate table file w → v ≡ w
one-certificate table file v w is is_too =
    let same = sym is.spelled ∙ is_too.spelled in
    let formula : formula_word ++ is.formula ≡ formula_word ++ is_too.formula = cc in
    let coverage : coverage_word ++ is.coverage ≡ coverage_word ++ is_too.coverage = cc in
    let size : size_word ++ is.size ≡ size_word ++ is_too.size = cc in
    let bound : bound_word ++ is.bound ≡ bound_word ++ is_too.bound = cc in
    let threshold : threshold_word ++ is.threshold ≡ threshold_word ++ is_too.threshold = cc in
    let listed : map listed_line v.lines ++ end_line ∷ is.empty
    ≡ map listed_line w.lines ++ end_line ∷ is_too.empty = cc in
    one-of v.formula w.formula v.coverage w.coverage v.size w.size v.bound w.bound v.threshold w.threshold v.lines
    w.lines
    (one-formula table is.formula is_too.formula v.formula w.formula is.formula_is is_too.formula_is
    (append_cancel_left formula_word is.formula is_too.formula formula))
    (one-number is.coverage is_too.coverage v.coverage w.coverage is.coverage_is is_too.coverage_is
    (append_cancel_left coverage_word is.coverage is_too.coverage coverage))
    (one-number is.size is_too.size v.size w.size is.size_is is_too.size_is
    (append_cancel_left size_word is.size is_too.size size))
    (one-number is.bound is_too.bound v.bound w.bound is.bound_is is_too.bound_is
    (append_cancel_left bound_word is.bound is_too.bound bound))
    (one-number is.threshold is_too.threshold v.threshold w.threshold is.threshold_is is_too.threshold_is
    (append_cancel_left threshold_word is.threshold is_too.threshold threshold))
    (one-listed v.lines w.lines is.empty is_too.empty listed)

-- a first fault is the only one, and none where no line has one
one-fault : (table : TableEntries) (file : List (List ℕ)) (told other : CertificateFault) → IsFirstFault table file told
    → IsFirstFault table file other → told ≡ other
one-fault table file told other first too =
    elim (cases_order first.place too.place) [
      | inl same ↦
          let both : Some told ≡ Some other = sym first.here ∙ ap (fault_at table file) same ∙ too.here in
          cc
      | inr (inl before) ↦
          let both : Some told ≡ None = sym first.here ∙ too.before first.place before in
          absurd (cc)
      | inr (inr behind) ↦
          let both : Some other ≡ None = sym too.here ∙ first.before too.place behind in
          absurd (cc)
    ]

no-fault : (table : TableEntries) (file : List (List ℕ)) (told : CertificateFault) → IsFirstFault table file told
    → IsRight table file → ⊥
no-fault table file told first right =
    let both : Some told ≡ None = sym first.here ∙ right first.place first.within in
    cc

open-ended : (file : List (List ℕ)) → has_ended file ≡ false → has_ended file ≡ true → ⊥
open-ended file open_end ended = true≢false (sym ended ∙ open_end)

-- lines have one reading
determined : (table : TableEntries) (file : List (List ℕ)) (answer other : Answer)
    → CertificateReading table file answer
    → CertificateReading table file other → answer ≡ other
determined table file (Ok v) (Ok w) is is_too = ap (λ (value : CertificateEntries). Ok value)
    (one-certificate table file v w is is_too)
determined table file (Ok v) (Err told) is (inl first) =
    absurd (no-fault table file told first (certificate-so table file v is).so.right)
determined table file (Ok v) (Err told) is (inr lacks) =
    absurd (open-ended file lacks.open_end (certificate-so table file v is).so.ended_is)
determined table file (Err told) (Ok w) (inl first) is =
    absurd (no-fault table file told first (certificate-so table file w is).so.right)
determined table file (Err told) (Ok w) (inr lacks) is =
    absurd (open-ended file lacks.open_end (certificate-so table file w is).so.ended_is)
determined table file (Err told) (Err other) (inl first) (inl too) =
    ap (λ (fault : CertificateFault). Err fault) (one-fault table file told other first too)
determined table file (Err told) (Err other) (inl first) (inr lacks) =
    absurd (no-fault table file told first lacks.right)
determined table file (Err told) (Err other) (inr lacks) (inl too) = absurd (no-fault table file other too lacks.right)
determined table file (Err told) (Err other) (inr lacks) (inr too) =
    ap (λ (fault : CertificateFault). Err fault) (lacks.is ∙ sym too.is)

-- each reading of the lines is the one that is computed
pub reading-only : (table : TableEntries) (file : List (List ℕ)) (answer : Answer)
    → CertificateReading table file answer
    → answer ≡ certificate_in table file
reading-only table file answer reading =
    determined table file answer (certificate_in table file) reading (reading-file table file)
