-- A text of the grammar is read as the adduct that it is.
use Rattle.std.proofs.Common.{◌≡◌, ℕ, ◌+◌, ◌<◌, Bool, true, false, cond, ltb, List, [], ◌∷◌, ◌++◌, length, refl, sym}
use Rattle.std.proofs.Common.{ap, ◌∙◌, subst, arith, append_assoc, append-nil, length-append}
use Rattle.std.specs.Prelude.{Option, Some, None, Result, Ok, Err, IsTrue, IfSome, ◌&&◌, ◌==◌}
use Rattle.std.specs.List.{AllByRecursion, flat_map}
use Rattle.std.specs.Char.{is_ascii_digit}
use Rattle.std.proofs.lemmas.Bool.{lt-ltb}
use Rattle.std.proofs.lemmas.Bool.Decides.{nat_tests}
use Rattle.std.proofs.lemmas.List.Elements.{recursion_from_All}
use Rattle.element_table.specs.SymbolText.{is_symbol, is_capital, is_small}
use Rattle.written_items.specs.WrittenItems.{WrittenItem, are_digits, begins, text_with}
use Rattle.written_items.specs.WrittenRows.{WrittenPart, part_text, row_text}
use Rattle.written_items.proofs.ByteKinds.{capital-digit}
use Rattle.written_items.proofs.LeadingSymbols.{begins-symbol}
use Rattle.adducts.specs.AdductTexts.{WrittenTerm, WrittenIon, IsPlainPart, IsTerm, IsWrittenIon, IsAdductOf, is_sign, term_text, ion_text, adduct_text}
use Rattle.adducts.specs.Progress.{term_with}
use Rattle.adducts.specs.AdductReader.{Reading, Nothing, Neutral, Copies, Terms, Coefficient, Row, Part, Charge, Whole}
use Rattle.adducts.specs.AdductReader.{plain_part, with_part, new_term, step, read_from}
use Rattle.adducts.proofs.ReadingSteps.{read-end, read-goes_on, read-copies, read-coefficient, read-count, read-number}
use Rattle.adducts.proofs.ReadingSteps.{read-symbol, read-part, read-new_term, read-whole_term, read-sign}

-- the text goes on with neither a digit nor a letter
pub record EndsPart (rest : List ℕ) : Type 0 where
  pub digit : begins is_ascii_digit rest ≡ false
  pub small : begins is_small rest ≡ false

capital-small : (b : ℕ) → is_capital b ≡ true → is_small b ≡ false
capital-small b h = grind (arith, nat_tests)

sign-others : (b : ℕ) → is_sign b ≡ true → (is_ascii_digit b ≡ false) × (is_small b ≡ false) × (is_capital b ≡ false)
sign-others b h = (grind (arith, nat_tests), grind (arith, nat_tests), grind (arith, nat_tests))

starts_part : (text : List ℕ) → begins is_capital text ≡ true → EndsPart text
starts_part [] h = record { digit = refl; small = refl }
starts_part (b ∷ rest) h = record { digit = capital-digit b h; small = capital-small b h }

-- the next part, or the end of the row
row-ends : (row : List WrittenPart) (rest : List ℕ) → AllByRecursion IsPlainPart row → EndsPart rest
    → EndsPart (row_text row ++ rest)
row-ends [] rest all ends = ends
row-ends (part ∷ row) rest all ends =
    let symbol = part.item.symbol in
    let text : row_text (part ∷ row) ++ rest ≡ symbol ++ (part.tail ++ (row_text row ++ rest)) =
    ap (λ o. ((text_with o symbol ++ part.tail) ++ row_text row) ++ rest) all.0.plain
    ∙ append_assoc (symbol ++ part.tail) (row_text row) rest ∙ append_assoc symbol part.tail (row_text row ++ rest) in
    subst EndsPart (sym text)
    (starts_part (symbol ++ (part.tail ++ (row_text row ++ rest)))
    (begins-symbol symbol (part.tail ++ (row_text row ++ rest)) all.0.is.item.symbol))

same_part : (part : WrittenPart) → part.item.digits ≡ None → plain_part part.item.symbol part.tail ≡ part
same_part part plain =
    ap (λ (o : Option (List ℕ)). record { item = record { symbol = part.item.symbol; digits = o }; tail = part.tail }) (sym plain)

-- the parts of a term, one after another
pub read-row : (copies : List ℕ) (terms : List WrittenTerm) (sign : ℕ) (coefficient : List ℕ) (done row : List WrittenPart) (rest : List ℕ) (at : ℕ) → AllByRecursion IsPlainPart row → EndsPart rest → read_from (row_text row ++ rest) (Row copies terms (term_with sign coefficient done)) at ≡ read_from rest (Row copies terms (term_with sign coefficient (done ++ row))) (at + length (row_text row))
read-row copies terms sign coefficient done [] rest at all ends =
    let here : at ≡ at + 0 = omega arith in
    ap (λ ps. read_from rest (Row copies terms (term_with sign coefficient ps)) at) (sym (append-nil done))
    ∙ ap (λ n. read_from rest (Row copies terms (term_with sign coefficient (done ++ []))) n) here
read-row copies terms sign coefficient done (part ∷ row) rest at all ends =
    let symbol = part.item.symbol in
    let term = term_with sign coefficient done in
    let behind : List ℕ = row_text row ++ rest in
    let next = row-ends row rest all.1 ends in
    let text : row_text (part ∷ row) ++ rest ≡ symbol ++ (part.tail ++ behind) =
    ap (λ o. ((text_with o symbol ++ part.tail) ++ row_text row) ++ rest) all.0.plain
    ∙ append_assoc (symbol ++ part.tail) (row_text row) rest ∙ append_assoc symbol part.tail behind in
    let sizes : length (row_text (part ∷ row)) ≡ length symbol + length part.tail + length (row_text row) =
    ap (λ o. length ((text_with o symbol ++ part.tail) ++ row_text row)) all.0.plain
    ∙ length-append (symbol ++ part.tail) (row_text row)
    ∙ ap (λ n. n + length (row_text row)) (length-append symbol part.tail) in
    let here : at + length symbol + length part.tail + length (row_text row) ≡ at + length (row_text (part ∷ row)) =
    omega (arith, sizes) in
    ap (λ t. read_from t (Row copies terms term) at) text
    ∙ read-symbol copies terms term symbol (part.tail ++ behind) at all.0.is.item.symbol
    ∙ read-count copies terms term symbol part.tail behind (at + length symbol) all.0.is.tail
    ∙ read-part copies terms term symbol part.tail behind (at + length symbol + length part.tail) next.digit
    (λ _ _. next.small)
    ∙ ap (λ p. read_from behind (Row copies terms (term_with sign coefficient (done ++ (p ∷ []))))
    (at + length symbol + length part.tail)) (same_part part all.0.plain)
    ∙ read-row copies terms sign coefficient (done ++ (part ∷ [])) row rest (at + length symbol + length part.tail)
    all.1 ends
    ∙ ap (λ ps. read_from rest (Row copies terms (term_with sign coefficient ps))
    (at + length symbol + length part.tail + length (row_text row))) (append_assoc done (part ∷ []) row)
    ∙ ap (λ n. read_from rest (Row copies terms (term_with sign coefficient (done ++ (part ∷ row)))) n) here

-- the text goes on with no part of a term
pub record EndsTerm (rest : List ℕ) : Type 0 where
  pub part : EndsPart rest
  pub capital : begins is_capital rest ≡ false

starts_term : (sign : ℕ) (rest : List ℕ) → is_sign sign ≡ true → EndsTerm (sign ∷ rest)
starts_term sign rest h =
    let others = sign-others sign h in
    record { part = record { digit = others.0; small = others.1 }; capital = others.2 }

some_row : (row : List WrittenPart) → 0 < length row → ltb 0 (length row) ≡ true
some_row row h = lt-ltb 0 (length row) h

pub read-term : (copies : List ℕ) (terms : List WrittenTerm) (term : WrittenTerm) (rest : List ℕ) (at : ℕ)
    → IsTerm term → EndsTerm rest
    → read_from (term_text term ++ rest) (Terms copies terms) at
    ≡ read_from rest (Terms copies (terms ++ (term ∷ []))) (at + length (term_text term))
read-term copies terms term rest at is ends =
    let sign = term.sign in
    let k = term.coefficient in
    let row = term.row in
    let all = recursion_from_All IsPlainPart row is.row in
    let behind : List ℕ = row_text row ++ rest in
    let len = length-append k (row_text row) in
    let here : at + 1 + length k + length (row_text row) ≡ at + length (term_text term) = omega (arith, len) in
    ap (λ t. read_from (sign ∷ t) (Terms copies terms) at) (append_assoc k (row_text row) rest)
    ∙ read-sign copies terms sign (k ++ behind) at is.sign
    ∙ read-coefficient copies terms sign k behind (at + 1) is.coefficient
    ∙ read-new_term copies terms sign k behind (at + 1 + length k) (row-ends row rest all ends.part).digit
    ∙ read-row copies terms sign k [] row rest (at + 1 + length k) all ends.part
    ∙ read-whole_term copies terms term rest (at + 1 + length k + length (row_text row)) (some_row row is.some)
    ends.capital
    ∙ ap (λ n. read_from rest (Terms copies (terms ++ (term ∷ []))) n) here

terms-end : (terms : List WrittenTerm) (rest : List ℕ) → AllByRecursion IsTerm terms → EndsTerm rest
    → EndsTerm (flat_map term_text terms ++ rest)
terms-end [] rest all ends = ends
terms-end (term ∷ terms) rest all ends =
    subst EndsTerm (sym (append_assoc (term_text term) (flat_map term_text terms) rest))
    (starts_term term.sign ((term.coefficient ++ row_text term.row) ++ (flat_map term_text terms ++ rest)) all.0.sign)

pub read-terms : (copies : List ℕ) (before terms : List WrittenTerm) (rest : List ℕ) (at : ℕ)
    → AllByRecursion IsTerm terms → EndsTerm rest
    → read_from (flat_map term_text terms ++ rest) (Terms copies before) at
    ≡ read_from rest (Terms copies (before ++ terms)) (at + length (flat_map term_text terms))
read-terms copies before [] rest at all ends =
    let here : at ≡ at + 0 = omega arith in
    ap (λ ts. read_from rest (Terms copies ts) at) (sym (append-nil before))
    ∙ ap (λ n. read_from rest (Terms copies (before ++ [])) n) here
read-terms copies before (term ∷ terms) rest at all ends =
    let len = length-append (term_text term) (flat_map term_text terms) in
    let here : at + length (term_text term) + length (flat_map term_text terms)
    ≡ at + length (flat_map term_text (term ∷ terms)) = omega (arith, len) in
    ap (λ t. read_from t (Terms copies before) at) (append_assoc (term_text term) (flat_map term_text terms) rest)
    ∙ read-term copies before term (flat_map term_text terms ++ rest) at all.0 (terms-end terms rest all.1 ends)
    ∙ read-terms copies (before ++ (term ∷ [])) terms rest (at + length (term_text term)) all.1 ends
    ∙ ap (λ ts. read_from rest (Terms copies ts) (at + length (term_text term) + length (flat_map term_text terms)))
    (append_assoc before (term ∷ []) terms)
    ∙ ap (λ n. read_from rest (Terms copies (before ++ (term ∷ terms))) n) here

closing-ends : (rest : List ℕ) → EndsTerm (93 ∷ rest)
closing-ends rest = record { part = record { digit = refl; small = refl }; capital = refl }

-- the sign of the charge, which ends the text
pub read-last : (copies : List ℕ) (terms : List WrittenTerm) (number : List ℕ) (sign : ℕ) (at : ℕ) → is_sign sign ≡ true
    → read_from (sign ∷ []) (Charge copies terms number) at
    ≡ Ok (Some (record { copies = copies; terms = terms; charge = number; sign = sign }))
read-last copies terms number sign at h =
    let ion : WrittenIon = record { copies = copies; terms = terms; charge = number; sign = sign } in
    read-goes_on sign [] (Charge copies terms number) (Whole ion) at
    (ap (λ t. cond t (Some (Charge copies terms (number ++ (sign ∷ [])))) (cond (is_sign sign) (Some (Whole ion)) None))
    ((sign-others sign h).0)
    ∙ ap (λ t. cond t (Some (Whole ion)) None) h)
    ∙ read-end (Whole ion) (at + 1)

read-ion : (ion : WrittenIon) → IsWrittenIon ion → read_from (ion_text ion) Nothing 0 ≡ Ok (Some ion)
read-ion ion is =
    let last : List ℕ = ion.charge ++ (ion.sign ∷ []) in
    let behind : List ℕ = flat_map term_text ion.terms ++ (93 ∷ last) in
    let n = length ion.copies in
    let m = length (flat_map term_text ion.terms) in
    read-goes_on 91 (ion.copies ++ (77 ∷ behind)) Nothing (Copies []) 0 refl
    ∙ read-copies ion.copies (77 ∷ behind) (0 + 1) is.copies
    ∙ read-goes_on 77 behind (Copies ion.copies) (Terms ion.copies []) (0 + 1 + n) refl
    ∙ read-terms ion.copies [] ion.terms (93 ∷ last) (0 + 1 + n + 1) (recursion_from_All IsTerm ion.terms is.terms)
    (closing-ends last)
    ∙ read-goes_on 93 last (Terms ion.copies ion.terms) (Charge ion.copies ion.terms []) (0 + 1 + n + 1 + m) refl
    ∙ read-number ion.copies ion.terms ion.charge (ion.sign ∷ []) (0 + 1 + n + 1 + m + 1) is.charge
    ∙ read-last ion.copies ion.terms ion.charge ion.sign (0 + 1 + n + 1 + m + 1 + length ion.charge) is.sign

-- a text of the grammar is read as the adduct that it is
pub read-written : (written : Option WrittenIon) (text : List ℕ) → IsAdductOf written text
    → read_from text Nothing 0 ≡ Ok written
read-written None text is =
    ap (λ t. read_from t Nothing 0) is.spelled ∙ read-goes_on 77 [] Nothing Neutral 0 refl ∙ read-end Neutral (0 + 1)
read-written (Some ion) text is = ap (λ t. read_from t Nothing 0) is.spelled ∙ read-ion ion is.is
