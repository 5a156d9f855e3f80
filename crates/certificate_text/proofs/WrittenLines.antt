-- What is written of a certificate is read as that certificate.
use Rattle.std.proofs.Common.{◌≡◌, ℕ, ◌+◌, ◌^◌, ◌<◌, ◌≤◌, ◌==◌, suc, true, false, cond, List, [], ◌∷◌, ◌++◌}
use Rattle.std.proofs.Common.{length, take, drop, map, Some, Ok, refl, sym, ◌∙◌, ap, arith}
use Rattle.std.proofs.Common.{append_assoc}
use Rattle.std.proofs.Common.{length-append, get_or, zero, ◌-◌}
use Rattle.std.specs.Prelude.{IsTrue, nat_le, nat_lt, not, position}
use Rattle.std.specs.List.{AllByRecursion, flat_map, list_all, prefix_len}
use Rattle.std.specs.Char.{is_ascii_digit}
use Rattle.std.specs.Fmt.{decimal}
use Rattle.std.specs.Str.Lines.{lines, strip_carriage_return}
use Rattle.std.proofs.lemmas.Bool.{and_from, and_parts, false≢true, leb-true, lt-ltb, ne_eqb}
use Rattle.std.proofs.lemmas.Bool.Decides.{nat_tests}
use Rattle.std.proofs.lemmas.Fmt.{decimal_is_IsNumeral}
use Rattle.std.proofs.lemmas.List.Elements.{All-nil, recursion_from_All}
use Rattle.std.proofs.lemmas.List.Folds.{list_all-append}
use Rattle.std.proofs.Math.Seq.{take-append_seam, drop-append_seam}
use Rattle.element_table.specs.Elements.{TableEntries}
use Rattle.element_table.specs.SymbolText.{is_symbol}
use Rattle.file_lines.proofs.FileLines.{lines-cut}
use Rattle.fixed_decimal.specs.DecimalTexts.{number_of}
use Rattle.fixed_decimal.proofs.NumbersInRange.{digits-whole_number}
use Rattle.written_items.specs.declared.item.Item.{Item}
use Rattle.written_items.specs.Items.{count_text, item_text, opening_bracket, closing_bracket}
use Rattle.written_items.proofs.ByteKinds.{numeral-digits, prefix_len-run}
use Rattle.formula_text.specs.Formulas.{IsItem}
use Rattle.formula_text.specs.Masses.{HasItems}
use Rattle.formula_text.specs.PrintedText.{printed_text}
use Rattle.formula_text.proofs.PrintedRows.{read_of-printed_text}
use Rattle.certificate_text.specs.Certificates.{CertLineEntry, CertificateEntries}
use Rattle.certificate_text.specs.CertificateLines.{cover_word, end_line, layer_word, listed_line, most_number}
use Rattle.certificate_text.specs.CertificateReadings.{IsCertificate, SaysNumber}
use Rattle.certificate_text.specs.CertificateReader.{certificate_of}
use Rattle.certificate_text.specs.WrittenCertificates.{IsWritable, ended, is_plain_text, written_lines, written_text}
use Rattle.certificate_text.proofs.OneReading.{reading-only}

-- ---- lines with their ends

no-feed : (b : ℕ) → nat_le 32 b ≡ true → not (b == 10) ≡ true
no-feed b h = ap not (ne_eqb b 10 (λ e. omega (arith, leb-true 32 b h)))

no-feeds : (line : List ℕ) → is_plain_text line ≡ true → list_all (λ b. not (b == 10)) line ≡ true
no-feeds [] plain = refl
no-feeds (b ∷ line) plain =
    let tests = and_parts (nat_le 32 b) (is_plain_text line) plain in
    and_from _ _ (no-feed b tests.0) (no-feeds line tests.1)

feed-behind : (line rest : List ℕ) → is_plain_text line ≡ true → position (λ b. b == 10) (line ++ 10 ∷ rest)
    ≡ Some (length line)
feed-behind line rest plain =
    let before : prefix_len (λ b. not (b == 10)) (line ++ 10 ∷ rest) ≡ length line =
    prefix_len-run (λ b. not (b == 10)) line (10 ∷ rest) (no-feeds line plain) refl in
    let within : nat_lt (length line) (length (line ++ 10 ∷ rest)) ≡ true =
    lt-ltb (length line) (length (line ++ 10 ∷ rest)) (omega (arith, length-append line (10 ∷ rest))) in
    rw (before, within) refl

no-return : (line : List ℕ) (k : ℕ) → is_plain_text line ≡ true → (get_or line k 0 == 13) ≡ false
no-return [] k plain = refl
no-return (b ∷ line) zero plain =
    ne_eqb b 13 (λ e. omega (arith, leb-true 32 b (and_parts (nat_le 32 b) (is_plain_text line) plain).0))
no-return (b ∷ line) (suc k) plain = no-return line k (and_parts (nat_le 32 b) (is_plain_text line) plain).1

last-plain : (line : List ℕ) → is_plain_text line ≡ true → strip_carriage_return line ≡ line
last-plain line plain = rw (no-return line (length line - 1) plain) refl

lines-ended : (ls : List (List ℕ)) → AllByRecursion (λ line. is_plain_text line ≡ true) ls → lines (flat_map ended ls)
    ≡ ls
lines-ended [] plain = refl
lines-ended (line ∷ ls) plain =
    let bytes : List ℕ = flat_map ended ls in
    let whole : (line ++ 10 ∷ []) ++ bytes ≡ line ++ 10 ∷ bytes = append_assoc line (10 ∷ []) bytes in
    let seam : (line ++ 10 ∷ []) ++ bytes ≡ (line ++ 10 ∷ []) ++ bytes = refl in
    let size : length line + 1 ≡ length (line ++ 10 ∷ []) = sym (length-append line (10 ∷ [])) in
    let front : take (length line) (line ++ 10 ∷ bytes) ≡ line = take-append_seam line (10 ∷ bytes) in
    let back : drop (length line + 1) (line ++ 10 ∷ bytes) ≡ bytes =
    ap (λ (k : ℕ). drop k (line ++ 10 ∷ bytes)) size ∙ ap (drop (length (line ++ 10 ∷ []))) (sym whole)
    ∙ drop-append_seam (line ++ 10 ∷ []) bytes in
    ap lines whole ∙ lines-cut (line ++ 10 ∷ bytes) (length line) (feed-behind line bytes plain.0)
    ∙ ap (λ (l : List ℕ). strip_carriage_return l ∷ lines (drop (length line + 1) (line ++ 10 ∷ bytes))) front
    ∙ ap (λ (l : List ℕ). l ∷ lines (drop (length line + 1) (line ++ 10 ∷ bytes))) (last-plain line plain.0)
    ∙ ap (λ (l : List ℕ). line ∷ lines l) back ∙ ap (λ (l : List (List ℕ)). line ∷ l) (lines-ended ls plain.1)

-- ---- texts without control characters

pub plain-append : (a b : List ℕ) → is_plain_text a ≡ true → is_plain_text b ≡ true → is_plain_text (a ++ b) ≡ true
plain-append a b pa pb = list_all-append (λ byte. nat_le 32 byte) a b ∙ and_from _ _ pa pb

digit-plain : (b : ℕ) → is_ascii_digit b ≡ true → nat_le 32 b ≡ true
digit-plain b h = grind (arith, nat_tests)

digits-plain : (digits : List ℕ) → list_all is_ascii_digit digits ≡ true → is_plain_text digits ≡ true
digits-plain [] h = refl
digits-plain (d ∷ ds) h =
    let tests = and_parts (is_ascii_digit d) (list_all is_ascii_digit ds) h in
    and_from _ _ (digit-plain d tests.0) (digits-plain ds tests.1)

decimal-plain : (n : ℕ) → n < 2 ^ 64 → is_plain_text (decimal n) ≡ true
decimal-plain n small = digits-plain (decimal n) (numeral-digits (decimal n) (decimal_is_IsNumeral n small).0.1)

symbol-plain : (symbol : List ℕ) → is_symbol symbol ≡ true → is_plain_text symbol ≡ true
symbol-plain [] h = refl
symbol-plain (a ∷ []) h = grind (arith, nat_tests)
symbol-plain (a ∷ b ∷ []) h = grind (arith, nat_tests)
symbol-plain (a ∷ b ∷ c ∷ []) h = grind (arith, nat_tests)
symbol-plain (a ∷ b ∷ c ∷ d ∷ more) h = absurd (false≢true h)

pub item-plain : (item : Item) → is_symbol item.symbol ≡ true → item.label < 2 ^ 64 →
    is_plain_text (item_text item) ≡ true
item-plain item symbol small =
    elim (item.label == 0) as (λ b. is_plain_text (cond b item.symbol
    (opening_bracket ∷ decimal item.label ++ item.symbol ++ closing_bracket ∷ [])) ≡ true) [
      | true ↦ symbol-plain item.symbol symbol
      | false ↦
          plain-append (decimal item.label ++ item.symbol) (closing_bracket ∷ [])
          (plain-append (decimal item.label) item.symbol (decimal-plain item.label small)
          (symbol-plain item.symbol symbol)) refl
    ]

pub count-plain : (n : ℕ) → n < 2 ^ 64 → is_plain_text (count_text n) ≡ true
count-plain n small =
    elim (n == 1) as (λ b. is_plain_text (cond b [] (decimal n)) ≡ true) [ true ↦ refl | false ↦ decimal-plain n small ]

printed-plain : (f : List (Item × ℕ)) → AllByRecursion (λ p. IsItem p.0) f → AllByRecursion (λ p. p.1 ≤ 10000) f
    → is_plain_text (printed_text f) ≡ true
printed-plain [] are few = refl
printed-plain (p ∷ ps) are few =
    plain-append (item_text p.0 ++ count_text p.1) (printed_text ps)
    (plain-append (item_text p.0) (count_text p.1) (item-plain p.0 are.0.symbol (omega (arith, are.0.label))) (count-plain p.1 (omega (arith, few.0))))
    (printed-plain ps are.1 few.1)

listed-plain : (entries : List CertLineEntry) → AllByRecursion (λ line. IsTrue (is_plain_text line.text)) entries
    → AllByRecursion (λ line. is_plain_text line ≡ true) (map listed_line entries ++ end_line ∷ [])
listed-plain [] plain = (refl, tt)
listed-plain (entry ∷ entries) plain = (
  elim entry.marked as (λ b. is_plain_text (cond b cover_word layer_word ++ entry.text) ≡ true) [
    | true ↦ plain-append cover_word entry.text refl plain.0
    | false ↦ plain-append layer_word entry.text refl plain.0
  ],
  listed-plain entries plain.1,
)

-- ---- the law

number-said : (n : ℕ) → n ≤ most_number → SaysNumber (decimal n) n
number-said n few =
    let numeral = decimal_is_IsNumeral n (omega arith) in
    let value : number_of (decimal n) ≡ n = numeral.1 in
    digits-whole_number most_number (decimal n) (numeral.0.0, numeral.0.1) (omega (arith, value))
    ∙ ap (λ (k : ℕ). Some k) value

pub read-written : (table : TableEntries) (value : CertificateEntries) → IsWritable value → HasItems table value.formula
    → certificate_of table (written_text value) ≡ Ok value
read-written table value is known =
    let items = recursion_from_All (λ p. IsItem p.0) value.formula is.formula.parts.are_items in
    let few = recursion_from_All (λ p. p.1 ≤ 10000) value.formula is.formula.parts.few_of_each in
    let texts = recursion_from_All (λ (line : CertLineEntry). IsTrue (is_plain_text line.text)) value.lines is.texts in
    let spelled : lines (written_text value) ≡ written_lines value =
    lines-ended (written_lines value) (
      refl,
      (
        printed-plain value.formula items few,
        (
          decimal-plain value.coverage (omega (arith, is.coverage)),
          (
            decimal-plain value.size (omega (arith, is.size)),
            (
              decimal-plain value.bound (omega (arith, is.bound)),
              (decimal-plain value.threshold (omega (arith, is.threshold)), listed-plain value.lines texts),
            ),
          ),
        ),
      ),
    ) in
    let reading : IsCertificate table (lines (written_text value)) value = record {
      formula = printed_text value.formula;
      coverage = decimal value.coverage;
      size = decimal value.size;
      bound = decimal value.bound;
      threshold = decimal value.threshold;
      empty = [];
      spelled = spelled;
      formula_is = read_of-printed_text table value.formula is.formula known;
      coverage_is = number-said value.coverage is.coverage;
      size_is = number-said value.size is.size;
      bound_is = number-said value.bound is.bound;
      threshold_is = number-said value.threshold is.threshold;
      are_empty = All-nil (λ line. line ≡ []);
    } in
    sym (reading-only table (lines (written_text value)) (Ok value) reading)
