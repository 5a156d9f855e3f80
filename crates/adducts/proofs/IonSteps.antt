-- The parts of an adduct's text make the whole, or the fault of the first that is bad.
use Rattle.std.proofs.Common.{◌≡◌, ℕ, ◌+◌, ◌<◌, ◌≤◌, Bool, true, false, cond, List, [], ◌∷◌, ◌++◌, length, drop, get_or}
use Rattle.std.proofs.Common.{refl, sym, ap, ◌∙◌, subst, arith, length-append}
use Rattle.std.specs.Prelude.{Option, Some, None, Result, Ok, Err, MatchBool, ⊤, ◌==◌}
use Rattle.std.specs.Char.{is_ascii_digit}
use Rattle.std.proofs.lemmas.Bool.{false≢true}
use Rattle.std.proofs.lemmas.Bool.Decides.{nat_tests}
use Rattle.formula_text.proofs.ReadAnswers.{unless-memory, unless-same}
use Rattle.written_items.specs.WrittenItems.{begins}
use Rattle.adducts.specs.declared.fault.AdductFault.{AdductFault}
use Rattle.adducts.specs.declared.fault.AdductFault.TheVariants.{BadText}
use Rattle.adducts.specs.declared.written.TermPart.{TermPart}
use Rattle.adducts.specs.declared.written.WrittenCharge.{WrittenCharge}
use Rattle.adducts.specs.declared.written.WrittenAdduct.{WrittenAdduct}
use Rattle.adducts.specs.AdductFaults.{is_memory}
use Rattle.adducts.specs.AdductTexts.{WrittenTerm, WrittenIon, is_sign, minus}
use Rattle.adducts.specs.AdductReadings.{number_or_one}
use Rattle.adducts.specs.AdductReader.{Reading, Nothing, Neutral, Copies, Terms, Charge, step_terms, step, read_from, capped, kept_terms}
use Rattle.adducts.specs.Progress.{BadAt, IsKept, AreTermsTo, IsChargeTo}
use Rattle.adducts.proofs.ReadingSteps.{read-end, read-goes_on, read-stops, read-copies}
use Rattle.adducts.proofs.TextPlaces.{DigitsAt}

-- bad text at a place of which P holds, and so Q
pub bad-also : (P Q : ℕ → Type 0) (fault : AdductFault) → ((place : ℕ) → P place → Q place) → BadAt P fault
    → BadAt Q fault
bad-also P Q fault also bad =
    unless-memory (is_memory fault) ((place : ℕ) × (fault ≡ BadText place) × P place)
    ((place : ℕ) × (fault ≡ BadText place) × Q place) (λ b. (b.0, b.1, also b.0 b.2)) bad

pub bad-at : (Q : ℕ → Type 0) (fault : AdductFault) (place : ℕ) → fault ≡ BadText place → Q place → BadAt Q fault
bad-at Q fault place e holds = unless-same (is_memory fault) ((place : ℕ) × (fault ≡ BadText place) × Q place) (place, e, holds)

-- a text that begins with a byte
pub first_is : (byte : ℕ) (text : List ℕ) → begins (λ b. b == byte) text ≡ true → text ≡ byte ∷ drop 1 text
first_is byte [] h = absurd (false≢true h)
first_is byte (b ∷ rest) h = let same : b ≡ byte = grind (arith, nat_tests, h) in ap (λ x. x ∷ rest) same

-- ---- the whole text

pub neutral-read : (text : List ℕ) → begins (λ b. b == 77) text ≡ true → length text ≤ 1
    → read_from text Nothing 0 ≡ Ok None
neutral-read text h short =
    let split = first_is 77 text h in
    let whole : length text ≡ 1 + length (drop 1 text) = ap length split ∙ omega arith in
    ap (λ t. read_from t Nothing 0) (split ∙ ap (λ t. 77 ∷ t) (none (drop 1 text) (omega (arith, whole, short))))
    ∙ read-goes_on 77 [] Nothing Neutral 0 refl ∙ read-end Neutral (0 + 1)
  where
    none : (rest : List ℕ) → length rest ≤ 0 → rest ≡ []
    none [] h = refl
    none (b ∷ rest) h = absurd (omega (arith, h))

pub neutral-fails : (text : List ℕ) → begins (λ b. b == 77) text ≡ true → 1 < length text
    → read_from text Nothing 0 ≡ Err 1
neutral-fails text h long =
    let split = first_is 77 text h in
    let whole : length text ≡ 1 + length (drop 1 text) = ap length split ∙ omega arith in
    ap (λ t. read_from t Nothing 0) split ∙ read-goes_on 77 (drop 1 text) Nothing Neutral 0 refl
    ∙ stops (drop 1 text) (omega (arith, whole, long))
  where
    stops : (rest : List ℕ) → 0 < length rest → read_from rest Neutral (0 + 1) ≡ Err 1
    stops [] h = absurd (omega (arith, h))
    stops (b ∷ rest) h = read-stops b rest Neutral (0 + 1) refl

pub nothing-fails : (text : List ℕ) → begins (λ b. b == 91) text ≡ false → begins (λ b. b == 77) text ≡ false
    → read_from text Nothing 0 ≡ Err 0
nothing-fails [] bracket letter = read-end Nothing 0
nothing-fails (b ∷ rest) bracket letter =
    read-stops b rest Nothing 0
    (ap (λ t. cond t (Some Neutral) (cond (b == 91) (Some (Copies [])) None)) letter
    ∙ ap (λ t. cond t (Some (Copies [])) None) bracket)

-- ---- an adduct in brackets

pub ion-begins : (text copies : List ℕ) → begins (λ b. b == 91) text ≡ true → DigitsAt text 1 copies
    → read_from text Nothing 0
    ≡ read_from (drop (1 + length copies) text) (Copies copies) (1 + length copies)
ion-begins text copies h of_digits =
    ap (λ t. read_from t Nothing 0) (first_is 91 text h)
    ∙ read-goes_on 91 (drop 1 text) Nothing (Copies []) 0 refl
    ∙ ap (λ t. read_from t (Copies []) (0 + 1)) of_digits.spelled
    ∙ read-copies copies (drop (1 + length copies) text) (0 + 1) of_digits.are

no_letter : (rest copies : List ℕ) (at : ℕ) → begins is_ascii_digit rest ≡ false → begins (λ b. b == 77) rest ≡ false
    → read_from rest (Copies copies) at ≡ Err at
no_letter [] copies at digit letter = read-end (Copies copies) at
no_letter (b ∷ rest) copies at digit letter =
    read-stops b rest (Copies copies) at
    (ap (λ t. cond t (Some (Copies (copies ++ (b ∷ [])))) (cond (b == 77) (Some (Terms copies [])) None)) digit
    ∙ ap (λ t. cond t (Some (Terms copies [])) None) letter)

pub ion-no_letter : (text copies : List ℕ) (place : ℕ) → begins (λ b. b == 91) text ≡ true → DigitsAt text 1 copies
    → place ≡ 1 + length copies → begins (λ b. b == 77) (drop (1 + length copies) text) ≡ false
    → read_from text Nothing 0 ≡ Err place
ion-no_letter text copies place h of_digits same letter =
    ion-begins text copies h of_digits
    ∙ no_letter (drop (1 + length copies) text) copies (1 + length copies) of_digits.ends letter ∙ ap Err (sym same)

-- up to the terms
pub ion-letter : (text copies : List ℕ) → begins (λ b. b == 91) text ≡ true → DigitsAt text 1 copies
    → drop (1 + length copies) text ≡ 77 ∷ drop (1 + length copies + 1) text
    → read_from text Nothing 0
    ≡ read_from (drop (1 + length copies + 1) text) (Terms copies []) (1 + length copies + 1)
ion-letter text copies h of_digits letter =
    ion-begins text copies h of_digits
    ∙ ap (λ t. read_from t (Copies copies) (1 + length copies)) letter
    ∙ read-goes_on 77 (drop (1 + length copies + 1) text) (Copies copies) (Terms copies []) (1 + length copies) refl

no_bracket : (rest copies : List ℕ) (terms : List WrittenTerm) (at : ℕ) → begins is_sign rest ≡ false
    → begins (λ b. b == 93) rest ≡ false → read_from rest (Terms copies terms) at ≡ Err at
no_bracket [] copies terms at sign bracket = read-end (Terms copies terms) at
no_bracket (b ∷ rest) copies terms at sign bracket =
    read-stops b rest (Terms copies terms) at
    (ap (λ t. cond t (Some (Reading.Coefficient copies terms b [])) (cond (b == 93) (Some (Charge copies terms [])) None))
    sign
    ∙ ap (λ t. cond t (Some (Charge copies terms [])) None) bracket)

pub ion-no_bracket : (text copies : List ℕ) (place next : ℕ) (old new : List TermPart)
    → begins (λ b. b == 91) text ≡ true → DigitsAt text 1 copies
    → drop (1 + length copies) text ≡ 77 ∷ drop (1 + length copies + 1) text
    → AreTermsTo text (1 + length copies + 1) old new next → place ≡ next
    → begins (λ b. b == 93) (drop next text) ≡ false → read_from text Nothing 0 ≡ Err place
ion-no_bracket text copies place next old new h of_digits letter terms same bracket =
    ion-letter text copies h of_digits letter ∙ terms.read copies []
    ∙ no_bracket (drop next text) copies terms.terms next terms.all bracket ∙ ap Err (sym same)

-- up to the charge
pub ion-bracket : (text copies : List ℕ) (next : ℕ) (old new : List TermPart)
    → begins (λ b. b == 91) text ≡ true → DigitsAt text 1 copies
    → drop (1 + length copies) text ≡ 77 ∷ drop (1 + length copies + 1) text
    → (terms : AreTermsTo text (1 + length copies + 1) old new next) → drop next text ≡ 93 ∷ drop (next + 1) text
    → read_from text Nothing 0 ≡ read_from (drop (next + 1) text) (Charge copies terms.terms []) (next + 1)
ion-bracket text copies next old new h of_digits letter terms bracket =
    ion-letter text copies h of_digits letter ∙ terms.read copies []
    ∙ ap (λ t. read_from t (Terms copies terms.terms) next) bracket
    ∙ read-goes_on 93 (drop (next + 1) text) (Terms copies terms.terms) (Charge copies terms.terms []) next refl

same_charge : (charge : WrittenCharge) (number : ℕ) (negative : Bool) → charge.number ≡ number
    → charge.is_negative ≡ negative → charge ≡ record { number = number; is_negative = negative }
same_charge charge number negative d e =
    ap (λ (n : ℕ). record { number = n; is_negative = charge.is_negative }) d
    ∙ ap (λ (b : Bool). record { number = number; is_negative = b }) e

pub ion-kept : (text copies : List ℕ) (next : ℕ) (old : List TermPart) (kept : WrittenAdduct) (charge : WrittenCharge)
    → begins (λ b. b == 91) text ≡ true → DigitsAt text 1 copies
    → drop (1 + length copies) text ≡ 77 ∷ drop (1 + length copies + 1) text
    → AreTermsTo text (1 + length copies + 1) old kept.parts.items next → old ≡ []
    → drop next text ≡ 93 ∷ drop (next + 1) text → IsChargeTo text (next + 1) charge
    → kept.copies ≡ capped (number_or_one copies) → kept.charge ≡ Some charge → IsKept text kept
ion-kept text copies next old kept charge h of_digits letter terms none bracket of_charge count same =
    record {
      written =
          Some (record {
            copies = copies;
            terms = terms.terms;
            charge = of_charge.number;
            sign =
                of_charge.sign;
          });
      read =
          ion-bracket text copies next old kept.parts.items h of_digits letter terms bracket
          ∙ of_charge.read copies terms.terms;
      copies = count;
      parts =
          terms.kept ∙ ap (λ l. l ++ kept_terms (1 + length copies + 1) terms.terms) none;
      charge =
          same ∙ ap Some (same_charge charge (capped (number_or_one of_charge.number)) (of_charge.sign == minus)
          of_charge.count of_charge.negative);
    }
