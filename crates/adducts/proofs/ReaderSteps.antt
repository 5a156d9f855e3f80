-- One step of each reader of a part of an adduct's text.
use Rattle.std.proofs.Common.{◌≡◌, ℕ, ◌+◌, ◌-◌, ◌*◌, ◌<◌, ◌≤◌, Bool, true, false, cond, ltb, List, [], ◌∷◌, ◌++◌}
use Rattle.std.proofs.Common.{length, map, drop, get_or, refl, sym, ap, ◌∙◌, subst, arith, append_assoc, append-nil}
use Rattle.std.proofs.Common.{length-append}
use Rattle.std.specs.Prelude.{Option, Some, None, Result, Ok, Err, ◌&&◌, ◌==◌}
use Rattle.std.specs.Char.{is_ascii_digit}
use Rattle.std.specs.List.{flat_map}
use Rattle.std.proofs.lemmas.Bool.{lt-ltb}
use Rattle.std.proofs.lemmas.List.{map-append}
use Rattle.std.proofs.lemmas.List.Concat.{flat_map-append}
use Rattle.element_table.specs.SymbolText.{is_capital}
use Rattle.written_items.specs.WrittenItems.{begins, EndsSymbol}
use Rattle.written_items.specs.WrittenRows.{WrittenPart, part_text, row_text, count_of_tail}
use Rattle.adducts.specs.declared.written.TermPart.{TermPart}
use Rattle.adducts.specs.declared.written.WrittenCharge.{WrittenCharge}
use Rattle.adducts.specs.declared.written.Factor.{Factor}
use Rattle.adducts.specs.AdductTexts.{WrittenTerm, WrittenIon, minus, is_sign, term_text}
use Rattle.adducts.specs.AdductReadings.{number_or_one, placed_row}
use Rattle.adducts.specs.AdductReader.{Reading, Terms, Row, Part, Charge, Whole, plain_part, with_part, new_term, step}
use Rattle.adducts.specs.AdductReader.{read_from, capped, kept_terms, kept_row, kept_part}
use Rattle.adducts.specs.Progress.{IsRowTo, IsWholeRowTo, AreTermsTo, IsChargeTo, kept_by, term_with}
use Rattle.adducts.proofs.ReadingSteps.{read-end, read-goes_on, read-stops, read-coefficient, read-count, read-number}
use Rattle.adducts.proofs.ReadingSteps.{read-symbol, read-part, read-new_term, read-whole_term, read-no_part, read-sign}
use Rattle.adducts.proofs.TextPlaces.{DigitsAt, SymbolAt, byte_at, byte_is, no_byte}
use Rattle.adducts.proofs.KeptNumbers.{capped-product}

-- ---- the parts of a term

part-read : (text symbol digits : List ℕ) (at : ℕ) → SymbolAt text at symbol → DigitsAt text (at + length symbol) digits
    → (copies : List ℕ) (before : List WrittenTerm) (term : WrittenTerm)
    → read_from (drop at text) (Row copies before term) at
    ≡ read_from (drop (at + length symbol + length digits) text) (Row copies before (with_part term symbol digits)) (at + length symbol + length digits)
part-read text symbol digits at of_symbol of_digits copies before term =
    let behind = drop (at + length symbol + length digits) text in
    ap (λ t. read_from t (Row copies before term) at) (of_symbol.spelled ∙ ap (λ t. symbol ++ t) of_digits.spelled)
    ∙ read-symbol copies before term symbol (digits ++ behind) at of_symbol.is
    ∙ read-count copies before term symbol digits behind (at + length symbol) of_digits.are
    ∙ read-part copies before term symbol digits behind (at + length symbol + length digits) of_digits.ends ends
  where
    ends : digits ≡ [] → EndsSymbol symbol (drop (at + length symbol + length digits) text)
    ends none =
        let same : at + length symbol ≡ at + length symbol + length digits = omega (arith, ap length none) in
        subst (λ n. EndsSymbol symbol (drop n text)) same of_symbol.ends

placed-more : (at : ℕ) (row : List WrittenPart) (part : WrittenPart)
    → placed_row at (row ++ (part ∷ [])) ≡ placed_row at row ++ ((at + length (row_text row), part) ∷ [])
placed-more at [] part = let same : at ≡ at + 0 = omega arith in ap (λ n. (n, part) ∷ []) same
placed-more at (first ∷ row) part =
    let len = length-append (part_text first) (row_text row) in
    let same : at + length (part_text first) + length (row_text row) ≡ at + length (row_text (first ∷ row)) =
    omega (arith, len) in
    ap (λ ps. (at, first) ∷ ps) (placed-more (at + length (part_text first)) row part
    ∙ ap (λ n. placed_row (at + length (part_text first)) row ++ ((n, part) ∷ [])) same)

row-more : (row : List WrittenPart) (part : WrittenPart)
    → length (row_text (row ++ (part ∷ []))) ≡ length (row_text row) + length (part_text part)
row-more row part =
    let one : length (row_text (part ∷ [])) ≡ length (part_text part) = ap length (append-nil (part_text part)) in
    ap length (flat_map-append part_text row (part ∷ [])) ∙ length-append (row_text row) (row_text (part ∷ []))
    ∙ ap (λ n. length (row_text row) + n) one

-- what the loop over the parts of a term keeps
pub record RowSoFar (text : List ℕ) (start : ℕ) (factor : Factor) (old new : List TermPart) (at : ℕ) : Type 0 where
  pub row : List WrittenPart
  pub is : IsRowTo text start factor old new at row
  pub begun : 0 < length row → start < at

pub row-begins : (text : List ℕ) (start : ℕ) (factor : Factor) (old : List TermPart) → start ≤ length text
    → RowSoFar text start factor old old start
row-begins text start factor old inside =
    record {
      row = [];
      is =
          record {
            within = inside;
            here = omega arith;
            kept = sym (append-nil old);
            read = λ copies before sign coefficient. refl;
          };
      begun = λ h. absurd (omega (arith, h));
    }

-- the part that is kept of a symbol and digits at a place
abbrev pub new_part : Factor → ℕ → List ℕ → List ℕ → TermPart
new_part factor at symbol digits =
    record {
      at = at;
      symbol = symbol;
      count = capped (factor.coefficient * capped (number_or_one digits));
      is_lost = factor.is_lost;
    }

pub row-goes_on : (text : List ℕ) (start : ℕ) (factor : Factor) (old new : List TermPart) (at : ℕ) (symbol digits : List ℕ) → RowSoFar text start factor old new at → SymbolAt text at symbol → DigitsAt text (at + length symbol) digits → RowSoFar text start factor old (new ++ (new_part factor at symbol digits ∷ [])) (at + length symbol + length digits)
row-goes_on text start factor old new at symbol digits so_far of_symbol of_digits =
    let part = plain_part symbol digits in
    let row = so_far.row in
    let is_here = so_far.is.here in
    let some = of_symbol.some in
    let len = length-append symbol digits in
    let more = row-more row part in
    record {
      row = row ++ (part ∷ []);
      is =
          record {
            within = of_digits.within;
            here = omega (arith, is_here, more, len);
            kept =
                ap (λ l. l ++ (new_part factor at symbol digits ∷ [])) so_far.is.kept
                ∙ append_assoc old (map (kept_by factor) (placed_row start row)) (new_part factor at symbol digits ∷ [])
                ∙ ap (λ n. old ++ (map (kept_by factor) (placed_row start row) ++ (new_part factor n symbol digits ∷ [])))
                is_here
                ∙ ap (λ l. old ++ l) (sym (map-append (kept_by factor) (placed_row start row)
                ((start + length (row_text row), part) ∷ [])) ∙ ap (map (kept_by factor)) (sym (placed-more start row part)));
            read =
                λ copies before sign coefficient. so_far.is.read copies before sign coefficient
                ∙ part-read text symbol digits at of_symbol of_digits copies before (term_with sign coefficient row);
          };
      begun = λ _. omega (arith, is_here, some);
    }

pub row-ends : (text : List ℕ) (start : ℕ) (factor : Factor) (old new : List TermPart) (at : ℕ)
    → RowSoFar text start factor old new at → begins is_capital (drop at text) ≡ false → (at ≡ start → ⊥)
    → IsWholeRowTo text start factor old new at
row-ends text start factor old new at so_far capital begun =
    record { row = so_far.row; some = some so_far.row refl; is = so_far.is; all = capital }
  where
    some : (row : List WrittenPart) → row ≡ so_far.row → 0 < length row
    some [] e =
        let is_here = so_far.is.here in
        let none : length (row_text so_far.row) ≡ 0 = ap (λ r. length (row_text r)) (sym e) in
        absurd (begun (omega (arith, is_here, none)))
    some (part ∷ row) e = omega arith

pub row-fails : (text : List ℕ) (start : ℕ) (at : ℕ) → begins is_capital (drop at text) ≡ false → at ≡ start
    → (copies : List ℕ) (before : List WrittenTerm) (sign : ℕ) (coefficient : List ℕ)
    → read_from (drop start text) (Row copies before (new_term sign coefficient)) start ≡ Err at
row-fails text start at capital same copies before sign coefficient =
    read-no_part copies before sign coefficient (drop start text) start
    (ap (λ n. begins is_capital (drop n text)) (sym same) ∙ capital)
    ∙ ap Err (sym same)

-- ---- terms

-- reading up to the parts of a term
term-begins : (text k : List ℕ) (at : ℕ) → begins is_sign (drop at text) ≡ true → at < length text
    → DigitsAt text (at + 1) k → (copies : List ℕ) (before : List WrittenTerm)
    → read_from (drop at text) (Terms copies before) at
    ≡ read_from (drop (at + 1 + length k) text) (Row copies before (new_term (get_or text at 0) k)) (at + 1 + length k)
term-begins text k at is_there inside of_digits copies before =
    let sign = get_or text at 0 in
    let behind = drop (at + 1 + length k) text in
    ap (λ t. read_from t (Terms copies before) at) (byte_at text at inside ∙ ap (λ t. sign ∷ t) of_digits.spelled)
    ∙ read-sign copies before sign (k ++ behind) at (byte_is is_sign text at true is_there inside)
    ∙ read-coefficient copies before sign k behind (at + 1) of_digits.are
    ∙ read-new_term copies before sign k behind (at + 1 + length k) of_digits.ends

kept-same : (term : WrittenTerm) (factor : Factor) → factor.coefficient ≡ capped (number_or_one term.coefficient)
    → factor.is_lost ≡ (term.sign == minus) → (p : ℕ × WrittenPart) → kept_by factor p ≡ kept_part term p
kept-same term factor of_coefficient of_sign p =
    ap (λ (n : ℕ). record { at = p.0; symbol = p.1.item.symbol; count = capped (n * capped (count_of_tail p.1.tail)); is_lost = factor.is_lost }) of_coefficient
    ∙ ap (λ (n : ℕ). record { at = p.0; symbol = p.1.item.symbol; count = n; is_lost = factor.is_lost }) (capped-product (number_or_one term.coefficient) (count_of_tail p.1.tail))
    ∙ ap (λ (b : Bool). record { at = p.0; symbol = p.1.item.symbol; count = capped (number_or_one term.coefficient * count_of_tail p.1.tail); is_lost = b }) of_sign

kept-row : (term : WrittenTerm) (factor : Factor) → factor.coefficient ≡ capped (number_or_one term.coefficient)
    → factor.is_lost ≡ (term.sign == minus) → (ps : List (ℕ × WrittenPart))
    → map (kept_by factor) ps ≡ map (kept_part term) ps
kept-row term factor of_coefficient of_sign [] = refl
kept-row term factor of_coefficient of_sign (p ∷ ps) =
    ap (λ k. k ∷ map (kept_by factor) ps) (kept-same term factor of_coefficient of_sign p)
    ∙ ap (λ l. kept_part term p ∷ l) (kept-row term factor of_coefficient of_sign ps)

terms-more : (terms : List WrittenTerm) (term : WrittenTerm)
    → length (flat_map term_text (terms ++ (term ∷ []))) ≡ length (flat_map term_text terms) + length (term_text term)
terms-more terms term =
    let one : length (flat_map term_text (term ∷ [])) ≡ length (term_text term) = ap length (append-nil (term_text term)) in
    ap length (flat_map-append term_text terms (term ∷ []))
    ∙ length-append (flat_map term_text terms) (flat_map term_text (term ∷ []))
    ∙ ap (λ n. length (flat_map term_text terms) + n) one

kept-more : (at : ℕ) (terms : List WrittenTerm) (term : WrittenTerm)
    → kept_terms at (terms ++ (term ∷ []))
    ≡ kept_terms at terms ++ kept_row term (at + length (flat_map term_text terms) + 1 + length term.coefficient) term.row
kept-more at [] term =
    let same : at + 1 + length term.coefficient ≡ at + 0 + 1 + length term.coefficient = omega arith in
    append-nil (kept_row term (at + 1 + length term.coefficient) term.row)
    ∙ ap (λ n. kept_row term n term.row) same
kept-more at (first ∷ terms) term =
    let front = kept_row first (at + 1 + length first.coefficient) first.row in
    let len = length-append (term_text first) (flat_map term_text terms) in
    let n = length term.coefficient in
    let same : at + length (term_text first) + length (flat_map term_text terms) + 1 + n
    ≡ at + length (flat_map term_text (first ∷ terms)) + 1 + n = omega (arith, len) in
    ap (λ l. front ++ l) (kept-more (at + length (term_text first)) terms term
    ∙ ap (λ m. kept_terms (at + length (term_text first)) terms ++ kept_row term m term.row) same)
    ∙ sym (append_assoc front (kept_terms (at + length (term_text first)) terms)
    (kept_row term (at + length (flat_map term_text (first ∷ terms)) + 1 + n) term.row))

-- what the loop over the terms keeps
pub record TermsSoFar (text : List ℕ) (start : ℕ) (old new : List TermPart) (at : ℕ) : Type 0 where
  pub terms : List WrittenTerm
  pub within : at ≤ length text
  pub here : at ≡ start + length (flat_map term_text terms)
  pub kept : new ≡ old ++ kept_terms start terms
  pub read : (copies : List ℕ) (before : List WrittenTerm) → read_from (drop start text) (Terms copies before) start ≡ read_from (drop at text) (Terms copies (before ++ terms)) at

pub terms-begin : (text : List ℕ) (start : ℕ) (old : List TermPart) → start ≤ length text
    → TermsSoFar text start old old start
terms-begin text start old inside =
    record {
      terms = [];
      within = inside;
      here = omega arith;
      kept = sym (append-nil old);
      read = λ copies before. ap (λ ts. read_from (drop start text) (Terms copies ts) start) (sym (append-nil before));
    }

pub terms-go_on : (text : List ℕ) (start : ℕ) (old middle new : List TermPart) (at next : ℕ) (k : List ℕ) (factor : Factor)
    → TermsSoFar text start old middle at → begins is_sign (drop at text) ≡ true → at < length text
    → DigitsAt text (at + 1) k → factor.coefficient ≡ capped (number_or_one k)
    → factor.is_lost ≡ (get_or text at 0 == minus)
    → IsWholeRowTo text (at + 1 + length k) factor middle new next → TermsSoFar text start old new next
terms-go_on text start old middle new at next k factor so_far is_there inside of_digits of_coefficient of_sign whole =
    let sign = get_or text at 0 in
    let term = term_with sign k whole.row in
    let terms = so_far.terms in
    let is_here = so_far.here in
    let next_here = whole.is.here in
    let more = terms-more terms term in
    let len = length-append k (row_text whole.row) in
    let same : at + 1 + length k ≡ start + length (flat_map term_text terms) + 1 + length k = omega (arith, is_here) in
    record {
      terms = terms ++ (term ∷ []);
      within = whole.is.within;
      here = omega (arith, is_here, next_here, more, len);
      kept =
          whole.is.kept
          ∙ ap (λ l. l ++ map (kept_by factor) (placed_row (at + 1 + length k) whole.row)) so_far.kept
          ∙ append_assoc old (kept_terms start terms) (map (kept_by factor) (placed_row (at + 1 + length k) whole.row))
          ∙ ap (λ l. old ++ (kept_terms start terms ++ l))
          (kept-row term factor of_coefficient of_sign (placed_row (at + 1 + length k) whole.row)
          ∙ ap (λ n. kept_row term n whole.row) same)
          ∙ ap (λ l. old ++ l) (sym (kept-more start terms term));
      read =
          λ copies before.
          so_far.read copies before
          ∙ term-begins text k at is_there inside of_digits copies (before ++ terms)
          ∙ whole.is.read copies (before ++ terms) sign k
          ∙ read-whole_term copies (before ++ terms) term (drop next text) next (lt-ltb 0 (length whole.row) whole.some)
          whole.all
          ∙ ap (λ ts. read_from (drop next text) (Terms copies ts) next) (append_assoc before terms (term ∷ []));
    }

pub terms-end : (text : List ℕ) (start : ℕ) (old new : List TermPart) (at : ℕ) → TermsSoFar text start old new at
    → begins is_sign (drop at text) ≡ false → AreTermsTo text start old new at
terms-end text start old new at so_far none =
    record {
      terms = so_far.terms;
      within = so_far.within;
      here = so_far.here;
      kept = so_far.kept;
      read = so_far.read;
      all = none;
    }

-- a term that fails
pub terms-fail : (text : List ℕ) (start : ℕ) (old middle : List TermPart) (at place : ℕ) (k : List ℕ)
    → TermsSoFar text start old middle at → begins is_sign (drop at text) ≡ true → at < length text
    → DigitsAt text (at + 1) k
    → ((copies : List ℕ) (before : List WrittenTerm) (sign : ℕ) (coefficient : List ℕ) → read_from (drop (at + 1 + length k) text) (Row copies before (new_term sign coefficient)) (at + 1 + length k) ≡ Err place)
    → (copies : List ℕ) (before : List WrittenTerm) → read_from (drop start text) (Terms copies before) start ≡ Err place
terms-fail text start old middle at place k so_far is_there inside of_digits fails copies before =
    so_far.read copies before
    ∙ term-begins text k at is_there inside of_digits copies (before ++ so_far.terms)
    ∙ fails copies (before ++ so_far.terms) (get_or text at 0) k

-- ---- the charge

charge-digits : (text digits : List ℕ) (at : ℕ) → DigitsAt text at digits → (copies : List ℕ) (terms : List WrittenTerm)
    → read_from (drop at text) (Charge copies terms []) at
    ≡ read_from (drop (at + length digits) text) (Charge copies terms digits) (at + length digits)
charge-digits text digits at of_digits copies terms =
    ap (λ t. read_from t (Charge copies terms []) at) of_digits.spelled
    ∙ read-number copies terms digits (drop (at + length digits) text) at of_digits.are

no_sign : (rest digits : List ℕ) (at : ℕ) (copies : List ℕ) (terms : List WrittenTerm)
    → begins is_ascii_digit rest ≡ false → begins is_sign rest ≡ false
    → read_from rest (Charge copies terms digits) at ≡ Err at
no_sign [] digits at copies terms digit sign = read-end (Charge copies terms digits) at
no_sign (b ∷ rest) digits at copies terms digit sign =
    let ion : WrittenIon = record { copies = copies; terms = terms; charge = digits; sign = b } in
    read-stops b rest (Charge copies terms digits) at
    (ap (λ t. cond t (Some (Charge copies terms (digits ++ (b ∷ [])))) (cond (is_sign b) (Some (Whole ion)) None)) digit
    ∙ ap (λ t. cond t (Some (Whole ion)) None) sign)

pub charge-no_sign : (text digits : List ℕ) (at : ℕ) → DigitsAt text at digits
    → begins is_sign (drop (at + length digits) text) ≡ false → (copies : List ℕ) (terms : List WrittenTerm)
    → read_from (drop at text) (Charge copies terms []) at ≡ Err (at + length digits)
charge-no_sign text digits at of_digits none copies terms =
    charge-digits text digits at of_digits copies terms
    ∙ no_sign (drop (at + length digits) text) digits (at + length digits) copies terms of_digits.ends none

charge-sign : (text digits : List ℕ) (at : ℕ) → DigitsAt text at digits
    → begins is_sign (drop (at + length digits) text) ≡ true → at + length digits < length text
    → (copies : List ℕ) (terms : List WrittenTerm)
    → read_from (drop at text) (Charge copies terms []) at
    ≡ read_from (drop (at + length digits + 1) text) (Whole (record { copies = copies; terms = terms; charge = digits; sign = get_or text (at + length digits) 0 })) (at + length digits + 1)
charge-sign text digits at of_digits is_there inside copies terms =
    let n = at + length digits in
    let sign = get_or text n 0 in
    let ion : WrittenIon = record { copies = copies; terms = terms; charge = digits; sign = sign } in
    charge-digits text digits at of_digits copies terms
    ∙ ap (λ t. read_from t (Charge copies terms digits) n) (byte_at text n inside)
    ∙ read-goes_on sign (drop (n + 1) text) (Charge copies terms digits) (Whole ion) n
    (ap (λ t. cond t (Some (Charge copies terms (digits ++ (sign ∷ [])))) (cond (is_sign sign) (Some (Whole ion)) None))
    (byte_is is_ascii_digit text n false of_digits.ends inside)
    ∙ ap (λ t. cond t (Some (Whole ion)) None) (byte_is is_sign text n true is_there inside))

pub charge-more : (text digits : List ℕ) (at : ℕ) → DigitsAt text at digits
    → begins is_sign (drop (at + length digits) text) ≡ true → at + length digits + 1 < length text
    → (copies : List ℕ) (terms : List WrittenTerm)
    → read_from (drop at text) (Charge copies terms []) at ≡ Err (at + length digits + 1)
charge-more text digits at of_digits is_there inside copies terms =
    let n = at + length digits + 1 in
    let ion : WrittenIon =
    record { copies = copies; terms = terms; charge = digits; sign = get_or text (at + length digits) 0 } in
    charge-sign text digits at of_digits is_there (omega (arith, inside)) copies terms
    ∙ ap (λ t. read_from t (Whole ion) n) (byte_at text n inside)
    ∙ read-stops (get_or text n 0) (drop (n + 1) text) (Whole ion) n refl

pub charge-whole : (text digits : List ℕ) (at : ℕ) (kept : WrittenCharge) → DigitsAt text at digits
    → begins is_sign (drop (at + length digits) text) ≡ true → at + length digits < length text
    → length text ≤ at + length digits + 1 → kept.number ≡ capped (number_or_one digits)
    → kept.is_negative ≡ (get_or text (at + length digits) 0 == minus) → IsChargeTo text at kept
charge-whole text digits at kept of_digits is_there inside ends number negative =
    let n = at + length digits + 1 in
    record {
      number = digits;
      sign = get_or text (at + length digits) 0;
      count = number;
      negative = negative;
      read =
          λ copies terms.
          let ion : WrittenIon =
          record { copies = copies; terms = terms; charge = digits; sign = get_or text (at + length digits) 0 } in
          charge-sign text digits at of_digits is_there inside copies terms
          ∙ ap (λ t. read_from t (Whole ion) n) (no_byte text n ends)
          ∙ read-end (Whole ion) n;
    }
