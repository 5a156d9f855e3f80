-- How reading an adduct's text goes on over one byte, over digits, over a symbol, and where a part, a coefficient or
-- a term is complete.
use Rattle.std.proofs.Common.{◌≡◌, ℕ, ◌+◌, ◌<◌, Bool, true, false, cond, ltb, List, [], ◌∷◌, ◌++◌, length, refl, sym, ap, ◌∙◌, arith, append_assoc, append-nil}
use Rattle.std.specs.Prelude.{Option, Some, None, Result, Ok, Err, IsTrue, ◌&&◌, ◌==◌}
use Rattle.std.specs.Char.{is_ascii_digit}
use Rattle.std.proofs.lemmas.Bool.{false≢true, and_parts}
use Rattle.std.proofs.lemmas.Bool.Decides.{nat_tests}
use Rattle.element_table.specs.SymbolText.{is_symbol, is_capital, is_small}
use Rattle.written_items.specs.WrittenItems.{are_digits, begins, EndsSymbol}
use Rattle.written_items.proofs.ByteKinds.{digit-small, capital-digit}
use Rattle.adducts.specs.AdductTexts.{WrittenTerm, WrittenIon, is_sign}
use Rattle.adducts.specs.AdductReader.{Reading, Copies, Terms, Coefficient, Row, Part, Charge, plain_part, with_part}
use Rattle.adducts.specs.AdductReader.{new_term, step_terms, step_row, step, at_end, read_on, read_from}

pub read-byte : (byte : ℕ) (rest : List ℕ) (reading : Reading) (at : ℕ)
    → read_from (byte ∷ rest) reading at ≡ read_on (step reading byte) at (λ next. read_from rest next (at + 1))
unfolding read_from
read-byte byte rest reading at = refl

pub read-end : (reading : Reading) (at : ℕ) → read_from [] reading at ≡ at_end reading at
unfolding read_from
read-end reading at = refl

-- the text goes on with a byte, or it can't
pub read-goes_on : (byte : ℕ) (rest : List ℕ) (reading next : Reading) (at : ℕ) → step reading byte ≡ Some next
    → read_from (byte ∷ rest) reading at ≡ read_from rest next (at + 1)
read-goes_on byte rest reading next at e =
    read-byte byte rest reading at ∙ ap (λ o. read_on o at (λ next. read_from rest next (at + 1))) e

pub read-stops : (byte : ℕ) (rest : List ℕ) (reading : Reading) (at : ℕ) → step reading byte ≡ None
    → read_from (byte ∷ rest) reading at ≡ Err at
read-stops byte rest reading at e =
    read-byte byte rest reading at ∙ ap (λ o. read_on o at (λ next. read_from rest next (at + 1))) e

-- two that go on alike and end alike read the same
pub read-same : (rest : List ℕ) (a b : Reading) (at : ℕ) → at_end a at ≡ at_end b at
    → ((byte : ℕ) (more : List ℕ) → rest ≡ byte ∷ more → step a byte ≡ step b byte)
    → read_from rest a at ≡ read_from rest b at
read-same [] a b at ends steps = read-end a at ∙ ends ∙ sym (read-end b at)
read-same (byte ∷ rest) a b at ends steps =
    read-byte byte rest a at
    ∙ ap (λ o. read_on o at (λ next. read_from rest next (at + 1))) (steps byte rest refl)
    ∙ sym (read-byte byte rest b at)

-- ---- digits

pub read-digits : (reading_of : List ℕ → Reading)
    → ((ds : List ℕ) (d : ℕ) → is_ascii_digit d ≡ true → step (reading_of ds) d ≡ Some (reading_of (ds ++ (d ∷ []))))
    → (read digits rest : List ℕ) (at : ℕ) → are_digits digits ≡ true
    → read_from (digits ++ rest) (reading_of read) at
    ≡ read_from rest (reading_of (read ++ digits)) (at + length digits)
read-digits reading_of next read [] rest at h =
    let here : at ≡ at + 0 = omega arith in
    ap (λ ds. read_from rest (reading_of ds) at) (sym (append-nil read))
    ∙ ap (λ n. read_from rest (reading_of (read ++ [])) n) here
read-digits reading_of next read (d ∷ ds) rest at h =
    let parts = and_parts (is_ascii_digit d) (are_digits ds) h in
    let here : at + 1 + length ds ≡ at + length (d ∷ ds) = omega arith in
    read-goes_on d (ds ++ rest) (reading_of read) (reading_of (read ++ (d ∷ []))) at (next read d parts.0)
    ∙ read-digits reading_of next (read ++ (d ∷ [])) ds rest (at + 1) parts.1
    ∙ ap (λ l. read_from rest (reading_of l) (at + 1 + length ds)) (append_assoc read (d ∷ []) ds)
    ∙ ap (λ n. read_from rest (reading_of (read ++ (d ∷ ds))) n) here

pub read-copies : (digits rest : List ℕ) (at : ℕ) → are_digits digits ≡ true
    → read_from (digits ++ rest) (Copies []) at ≡ read_from rest (Copies digits) (at + length digits)
read-copies digits rest at h =
    read-digits Copies (λ ds d e. ap (λ b. cond b (Some (Copies (ds ++ (d ∷ []))))
    (cond (d == 77) (Some (Terms ds [])) None)) e) [] digits rest at h

pub read-coefficient : (copies : List ℕ) (terms : List WrittenTerm) (sign : ℕ) (digits rest : List ℕ) (at : ℕ)
    → are_digits digits ≡ true
    → read_from (digits ++ rest) (Coefficient copies terms sign []) at
    ≡ read_from rest (Coefficient copies terms sign digits) (at + length digits)
read-coefficient copies terms sign digits rest at h =
    read-digits (Coefficient copies terms sign)
    (λ ds d e. ap (λ b. cond b (Some (Coefficient copies terms sign (ds ++ (d ∷ []))))
    (step_row copies terms (new_term sign ds) d)) e) [] digits rest at h

pub read-count : (copies : List ℕ) (terms : List WrittenTerm) (term : WrittenTerm) (symbol digits rest : List ℕ) (at : ℕ)
    → are_digits digits ≡ true
    → read_from (digits ++ rest) (Part copies terms term symbol []) at
    ≡ read_from rest (Part copies terms term symbol digits) (at + length digits)
read-count copies terms term symbol digits rest at h =
    read-digits (Part copies terms term symbol)
    (λ ds d e. ap (λ b. cond b (Some (Part copies terms term symbol (ds ++ (d ∷ []))))
    (cond (is_small d && ltb (length symbol) 3 && (length ds == 0))
    (Some (Part copies terms term (symbol ++ (d ∷ [])) ds)) (step_row copies terms (with_part term symbol ds) d))) e)
    [] digits rest at h

pub read-number : (copies : List ℕ) (terms : List WrittenTerm) (digits rest : List ℕ) (at : ℕ)
    → are_digits digits ≡ true
    → read_from (digits ++ rest) (Charge copies terms []) at
    ≡ read_from rest (Charge copies terms digits) (at + length digits)
read-number copies terms digits rest at h =
    read-digits (Charge copies terms)
    (λ ds d e. ap (λ b. cond b (Some (Charge copies terms (ds ++ (d ∷ []))))
    (cond (is_sign d) (Some (Reading.Whole (record { copies = copies; terms = terms; charge = ds; sign = d }))) None))
    e) [] digits rest at h

-- ---- symbols

small-digit : (b : ℕ) → is_small b ≡ true → is_ascii_digit b ≡ false
small-digit b h = grind (arith, nat_tests)

step-capital : (copies : List ℕ) (terms : List WrittenTerm) (term : WrittenTerm) (b : ℕ) → is_capital b ≡ true
    → step (Row copies terms term) b ≡ Some (Part copies terms term (b ∷ []) [])
step-capital copies terms term b h =
    ap (λ t. cond t (Some (Part copies terms term (b ∷ []) []))
    (cond (ltb 0 (length term.row)) (step_terms copies (terms ++ (term ∷ [])) b) None)) h

step-small : (copies : List ℕ) (terms : List WrittenTerm) (term : WrittenTerm) (symbol : List ℕ) (b : ℕ)
    → is_small b ≡ true → ltb (length symbol) 3 ≡ true
    → step (Part copies terms term symbol []) b ≡ Some (Part copies terms term (symbol ++ (b ∷ [])) [])
step-small copies terms term symbol b h short =
    ap (λ t. cond t (Some (Part copies terms term symbol (b ∷ [])))
    (cond (is_small b && ltb (length symbol) 3 && true) (Some (Part copies terms term (symbol ++ (b ∷ [])) []))
    (step_row copies terms (with_part term symbol []) b))) (small-digit b h)
    ∙ ap (λ t. cond (t && ltb (length symbol) 3 && true) (Some (Part copies terms term (symbol ++ (b ∷ [])) []))
    (step_row copies terms (with_part term symbol []) b)) h
    ∙ ap (λ t. cond (t && true) (Some (Part copies terms term (symbol ++ (b ∷ [])) []))
    (step_row copies terms (with_part term symbol []) b)) short

-- a symbol behind complete parts of a term
pub read-symbol : (copies : List ℕ) (terms : List WrittenTerm) (term : WrittenTerm) (symbol rest : List ℕ) (at : ℕ)
    → is_symbol symbol ≡ true
    → read_from (symbol ++ rest) (Row copies terms term) at
    ≡ read_from rest (Part copies terms term symbol []) (at + length symbol)
read-symbol copies terms term [] rest at h = absurd (false≢true h)
read-symbol copies terms term (a ∷ []) rest at h =
    read-goes_on a rest (Row copies terms term) (Part copies terms term (a ∷ []) []) at (step-capital copies terms term a h)
read-symbol copies terms term (a ∷ b ∷ []) rest at h =
    let two = and_parts (is_capital a) (is_small b) h in
    let here : at + 1 + 1 ≡ at + 2 = omega arith in
    read-goes_on a (b ∷ rest) (Row copies terms term) (Part copies terms term (a ∷ []) []) at
    (step-capital copies terms term a two.0)
    ∙ read-goes_on b rest (Part copies terms term (a ∷ []) []) (Part copies terms term (a ∷ b ∷ []) []) (at + 1)
    (step-small copies terms term (a ∷ []) b two.1 refl)
    ∙ ap (λ n. read_from rest (Part copies terms term (a ∷ b ∷ []) []) n) here
read-symbol copies terms term (a ∷ b ∷ c ∷ []) rest at h =
    let three = and_parts (is_capital a && is_small b) (is_small c) h in
    let two = and_parts (is_capital a) (is_small b) three.0 in
    let here : at + 1 + 1 + 1 ≡ at + 3 = omega arith in
    read-goes_on a (b ∷ c ∷ rest) (Row copies terms term) (Part copies terms term (a ∷ []) []) at
    (step-capital copies terms term a two.0)
    ∙ read-goes_on b (c ∷ rest) (Part copies terms term (a ∷ []) []) (Part copies terms term (a ∷ b ∷ []) []) (at + 1)
    (step-small copies terms term (a ∷ []) b two.1 refl)
    ∙ read-goes_on c rest (Part copies terms term (a ∷ b ∷ []) []) (Part copies terms term (a ∷ b ∷ c ∷ []) [])
    (at + 1 + 1) (step-small copies terms term (a ∷ b ∷ []) c three.1 refl)
    ∙ ap (λ n. read_from rest (Part copies terms term (a ∷ b ∷ c ∷ []) []) n) here
read-symbol copies terms term (a ∷ b ∷ c ∷ d ∷ more) rest at h = absurd (false≢true h)

-- ---- what is complete

-- no byte of this kind follows
head-false : (p : ℕ → Bool) (rest : List ℕ) (byte : ℕ) (more : List ℕ) → begins p rest ≡ false → rest ≡ byte ∷ more
    → p byte ≡ false
head-false p rest byte more h e = sym (ap (begins p) e) ∙ h

no_small : (symbol tail rest : List ℕ) (byte : ℕ) (more : List ℕ) → (tail ≡ [] → EndsSymbol symbol rest)
    → rest ≡ byte ∷ more → (is_small byte && ltb (length symbol) 3 && (length tail == 0)) ≡ false
no_small symbol (t ∷ tail) rest byte more ends e =
    ap (λ b. is_small byte && ltb (length symbol) 3 && b) (not_empty t tail)
    ∙ elim (is_small byte && ltb (length symbol) 3) as (λ b. (b && false) ≡ false) [ true ↦ refl | false ↦ refl ]
  where
    not_empty : (t : ℕ) (tail : List ℕ) → (length (t ∷ tail) == 0) ≡ false
    not_empty t tail = grind (arith, nat_tests)
no_small symbol [] rest byte more ends e =
    elim (ltb (length symbol) 3) as (λ b. ltb (length symbol) 3 ≡ b → (is_small byte && b && true) ≡ false) [
      | true ↦ λ short. ap (λ b. b && true && true)
          (head-false is_small rest byte more (ends refl (grind (arith, nat_tests, short))) e)
      | false ↦ λ _. elim (is_small byte) as (λ b. (b && false && true) ≡ false) [ true ↦ refl | false ↦ refl ]
    ] refl

-- the part that is read last is complete where neither a digit nor a small letter can go on in it
pub read-part : (copies : List ℕ) (terms : List WrittenTerm) (term : WrittenTerm) (symbol tail rest : List ℕ) (at : ℕ)
    → begins is_ascii_digit rest ≡ false → (tail ≡ [] → EndsSymbol symbol rest)
    → read_from rest (Part copies terms term symbol tail) at ≡ read_from rest (Row copies terms (with_part term symbol tail)) at
read-part copies terms term symbol tail rest at digit small =
    read-same rest (Part copies terms term symbol tail) (Row copies terms (with_part term symbol tail)) at refl
    (λ byte more e. ap (λ t. cond t (Some (Part copies terms term symbol (tail ++ (byte ∷ []))))
    (cond (is_small byte && ltb (length symbol) 3 && (length tail == 0))
    (Some (Part copies terms term (symbol ++ (byte ∷ [])) tail))
    (step_row copies terms (with_part term symbol tail) byte))) (head-false is_ascii_digit rest byte more digit e)
    ∙ ap (λ t. cond t (Some (Part copies terms term (symbol ++ (byte ∷ [])) tail))
    (step_row copies terms (with_part term symbol tail) byte)) (no_small symbol tail rest byte more small e))

-- a coefficient is complete where no digit follows
pub read-new_term : (copies : List ℕ) (terms : List WrittenTerm) (sign : ℕ) (coefficient rest : List ℕ) (at : ℕ)
    → begins is_ascii_digit rest ≡ false
    → read_from rest (Coefficient copies terms sign coefficient) at
    ≡ read_from rest (Row copies terms (new_term sign coefficient)) at
read-new_term copies terms sign coefficient rest at digit =
    read-same rest (Coefficient copies terms sign coefficient) (Row copies terms (new_term sign coefficient)) at refl
    (λ byte more e. ap (λ t. cond t (Some (Coefficient copies terms sign (coefficient ++ (byte ∷ []))))
    (step_row copies terms (new_term sign coefficient) byte)) (head-false is_ascii_digit rest byte more digit e))

-- a term with a part is complete where no symbol follows
pub read-whole_term : (copies : List ℕ) (terms : List WrittenTerm) (term : WrittenTerm) (rest : List ℕ) (at : ℕ)
    → ltb 0 (length term.row) ≡ true → begins is_capital rest ≡ false
    → read_from rest (Row copies terms term) at ≡ read_from rest (Terms copies (terms ++ (term ∷ []))) at
read-whole_term copies terms term rest at some capital =
    read-same rest (Row copies terms term) (Terms copies (terms ++ (term ∷ []))) at refl
    (λ byte more e. ap (λ t. cond t (Some (Part copies terms term (byte ∷ []) []))
    (cond (ltb 0 (length term.row)) (step_terms copies (terms ++ (term ∷ [])) byte) None))
    (head-false is_capital rest byte more capital e)
    ∙ ap (λ t. cond t (step_terms copies (terms ++ (term ∷ [])) byte) None) some)

-- a term without a part has to go on with a symbol
pub read-no_part : (copies : List ℕ) (terms : List WrittenTerm) (sign : ℕ) (coefficient rest : List ℕ) (at : ℕ)
    → begins is_capital rest ≡ false → read_from rest (Row copies terms (new_term sign coefficient)) at ≡ Err at
read-no_part copies terms sign coefficient [] at capital = read-end (Row copies terms (new_term sign coefficient)) at
read-no_part copies terms sign coefficient (byte ∷ rest) at capital =
    read-stops byte rest (Row copies terms (new_term sign coefficient)) at
    (ap (λ t. cond t (Some (Part copies terms (new_term sign coefficient) (byte ∷ []) [])) None) capital)

-- the sign of a term behind complete terms
pub read-sign : (copies : List ℕ) (terms : List WrittenTerm) (sign : ℕ) (rest : List ℕ) (at : ℕ) → is_sign sign ≡ true
    → read_from (sign ∷ rest) (Terms copies terms) at ≡ read_from rest (Coefficient copies terms sign []) (at + 1)
read-sign copies terms sign rest at h =
    read-goes_on sign rest (Terms copies terms) (Coefficient copies terms sign []) at
    (ap (λ t. cond t (Some (Coefficient copies terms sign []))
    (cond (sign == 93) (Some (Charge copies terms [])) None)) h)
