-- What is read of a text is an adduct of the grammar with this text.
use Rattle.std.proofs.Common.{◌≡◌, ℕ, ◌+◌, ◌<◌, Bool, true, false, cond, ltb, List, [], ◌∷◌, ◌++◌, length, refl, sym}
use Rattle.std.proofs.Common.{ap, ◌∙◌, subst, arith, append_assoc, append-nil, length-append}
use Rattle.std.specs.Prelude.{Option, Some, None, Result, Ok, Err, IsTrue, IfSome, ◌&&◌, ◌==◌}
use Rattle.std.specs.List.{AllByRecursion, flat_map}
use Rattle.std.specs.Char.{is_ascii_digit}
use Rattle.std.proofs.lemmas.Bool.{and_parts, and_from, ltb-true}
use Rattle.std.proofs.lemmas.Bool.Decides.{nat_tests}
use Rattle.std.proofs.lemmas.List.Concat.{flat_map-append}
use Rattle.std.proofs.lemmas.List.Elements.{All-from_recursion}
use Rattle.element_table.specs.SymbolText.{is_symbol, is_capital, is_small}
use Rattle.written_items.specs.WrittenItems.{are_digits}
use Rattle.written_items.specs.WrittenRows.{WrittenPart, part_text, row_text}
use Rattle.adducts.specs.AdductTexts.{WrittenTerm, WrittenIon, IsPlainPart, IsTerm, IsWrittenIon, IsAdductOf, is_sign, term_text, ion_text, adduct_text}
use Rattle.adducts.specs.AdductReader.{Reading, Nothing, Neutral, Copies, Terms, Coefficient, Row, Part, Charge, Whole}
use Rattle.adducts.specs.AdductReader.{plain_part, with_part, new_term, step_terms, step_row, step, at_end, read_on}
use Rattle.adducts.specs.AdductReader.{read_from}
use Rattle.adducts.proofs.ReadingSteps.{read-byte, read-end}

-- the text up to the terms
abbrev front : List ℕ → List WrittenTerm → List ℕ
front copies terms = 91 ∷ (copies ++ (77 ∷ flat_map term_text terms))

-- the text that was read
abbrev spelled : Reading → List ℕ
spelled Nothing = []
spelled Neutral = 77 ∷ []
spelled (Copies copies) = 91 ∷ copies
spelled (Terms copies terms) = front copies terms
spelled (Coefficient copies terms sign coefficient) = front copies terms ++ (sign ∷ coefficient)
spelled (Row copies terms term) = front copies terms ++ term_text term
spelled (Part copies terms term symbol tail) = front copies terms ++ term_text (with_part term symbol tail)
spelled (Charge copies terms number) = front copies terms ++ (93 ∷ number)
spelled (Whole ion) = ion_text ion

record FineFront (copies : List ℕ) (terms : List WrittenTerm) : Type 0 where
  copies_are : are_digits copies ≡ true
  terms_are : AllByRecursion IsTerm terms

record FineTerm (term : WrittenTerm) : Type 0 where
  sign_is : is_sign term.sign ≡ true
  coefficient_is : are_digits term.coefficient ≡ true
  row_is : AllByRecursion IsPlainPart term.row

-- what was read is of the grammar
abbrev Fine : Reading → Type 0
Fine Nothing = Unit {0}
Fine Neutral = Unit {0}
Fine (Copies copies) = are_digits copies ≡ true
Fine (Terms copies terms) = FineFront copies terms
Fine (Coefficient copies terms sign coefficient) = FineFront copies terms × FineTerm (new_term sign coefficient)
Fine (Row copies terms term) = FineFront copies terms × FineTerm term
Fine (Part copies terms term symbol tail) =
    FineFront copies terms × FineTerm term × (is_symbol symbol ≡ true) × (are_digits tail ≡ true)
Fine (Charge copies terms number) = FineFront copies terms × (are_digits number ≡ true)
Fine (Whole ion) = IsWrittenIon ion

-- the next reading is of the grammar, and its text has one byte more
record Goes (reading next : Reading) (byte : ℕ) : Type 0 where
  fine : Fine next
  text : spelled next ≡ spelled reading ++ (byte ∷ [])

same_next : {A : Type 0} (a b : A) (o : Option A) → o ≡ Some a → o ≡ Some b → a ≡ b
same_next a b o d e = cc

none_next : {A : Type 0} (b : A) (o : Option A) → o ≡ None → o ≡ Some b → ⊥
none_next b o d e = cc

-- the next reading is this one
goes_to : (reading made next : Reading) (byte : ℕ) (o : Option Reading) → o ≡ Some made → o ≡ Some next
    → Goes reading made byte → Goes reading next byte
goes_to reading made next byte o d e goes = subst (λ r. Goes reading r byte) (same_next made next o d e) goes

digits-more : (digits : List ℕ) (d : ℕ) → are_digits digits ≡ true → is_ascii_digit d ≡ true
    → are_digits (digits ++ (d ∷ [])) ≡ true
digits-more [] d h e = and_from (is_ascii_digit d) true e refl
digits-more (x ∷ digits) d h e =
    let parts = and_parts (is_ascii_digit x) (are_digits digits) h in
    and_from (is_ascii_digit x) (are_digits (digits ++ (d ∷ []))) parts.0 (digits-more digits d parts.1 e)

all-more : {A : Type 0} (P : A → Type 0) (xs : List A) (x : A) → AllByRecursion P xs → P x
    → AllByRecursion P (xs ++ (x ∷ []))
all-more P [] x all here = (here, tt)
all-more P (y ∷ ys) x all here = (all.0, all-more P ys x all.1 here)

fine-with_part : (term : WrittenTerm) (symbol tail : List ℕ) → FineTerm term → is_symbol symbol ≡ true
    → are_digits tail ≡ true → FineTerm (with_part term symbol tail)
fine-with_part term symbol tail fine symbol_is tail_is =
    record {
      sign_is = fine.sign_is;
      coefficient_is = fine.coefficient_is;
      row_is =
          all-more IsPlainPart term.row (plain_part symbol tail) fine.row_is
          (record { is = record { item = record { symbol = symbol_is; digits = tt }; tail = tail_is }; plain = refl });
    }

whole_term : (term : WrittenTerm) → FineTerm term → ltb 0 (length term.row) ≡ true → IsTerm term
whole_term term fine some =
    record {
      sign = fine.sign_is;
      coefficient = fine.coefficient_is;
      some = ltb-true 0 (length term.row) some;
      row = All-from_recursion IsPlainPart term.row fine.row_is;
    }

-- the texts of one more term
front-more : (copies : List ℕ) (terms : List WrittenTerm) (term : WrittenTerm)
    → front copies (terms ++ (term ∷ [])) ≡ front copies terms ++ term_text term
front-more copies terms term =
    ap (λ t. 91 ∷ (copies ++ (77 ∷ t))) (flat_map-append term_text terms (term ∷ [])
    ∙ ap (λ t. flat_map term_text terms ++ t) (append-nil (term_text term)))
    ∙ ap (λ t. 91 ∷ t) (sym (append_assoc copies (77 ∷ flat_map term_text terms) (term_text term)))

term-more : (term : WrittenTerm) (symbol tail : List ℕ)
    → term_text (with_part term symbol tail) ≡ term_text term ++ (symbol ++ tail)
term-more term symbol tail =
    ap (λ t. term.sign ∷ (term.coefficient ++ t)) (flat_map-append part_text term.row (plain_part symbol tail ∷ [])
    ∙ ap (λ t. row_text term.row ++ t) (append-nil (symbol ++ tail)))
    ∙ ap (λ t. term.sign ∷ t) (sym (append_assoc term.coefficient (row_text term.row) (symbol ++ tail)))

-- the text of a part that is read last, and one byte more in it
part-spelled : (copies : List ℕ) (terms : List WrittenTerm) (term : WrittenTerm) (symbol tail : List ℕ)
    → spelled (Part copies terms term symbol tail) ≡ (front copies terms ++ term_text term) ++ (symbol ++ tail)
part-spelled copies terms term symbol tail =
    ap (λ t. front copies terms ++ t) (term-more term symbol tail)
    ∙ sym (append_assoc (front copies terms) (term_text term) (symbol ++ tail))

-- ---- one byte behind complete terms, and behind complete parts

from_terms : (reading next : Reading) (copies : List ℕ) (terms : List WrittenTerm) (byte : ℕ) → FineFront copies terms
    → spelled reading ≡ front copies terms → step_terms copies terms byte ≡ Some next → Goes reading next byte
from_terms reading next copies terms byte fine text e =
    let here : front copies terms ++ (byte ∷ []) ≡ spelled reading ++ (byte ∷ []) =
    ap (λ t. t ++ (byte ∷ [])) (sym text) in
    elim (is_sign byte) as (λ b. is_sign byte
    ≡ b → cond b (Some (Coefficient copies terms byte [])) (cond (byte == 93) (Some (Charge copies terms [])) None)
    ≡ Some next → Goes reading next byte) [
      | true ↦ λ sign e. goes_to reading (Coefficient copies terms byte []) next byte _ refl e
          (record { fine = (fine, record { sign_is = sign; coefficient_is = refl; row_is = tt }); text = here })
      | false ↦ λ _ e. elim (byte == 93) as (λ b. (byte == 93)
          ≡ b → cond b (Some (Charge copies terms [])) None ≡ Some next → Goes reading next byte) [
            | true ↦ λ closing e.
                let same : 93 ≡ byte = grind (arith, nat_tests) in
                goes_to reading (Charge copies terms []) next byte _ refl e
                (record { fine = (fine, refl); text = ap (λ b. front copies terms ++ (b ∷ [])) same ∙ here })
            | false ↦ λ _ e. absurd (none_next next None refl e)
          ] refl e
    ] refl e

from_row : (reading next : Reading) (copies : List ℕ) (terms : List WrittenTerm) (term : WrittenTerm) (byte : ℕ)
    → FineFront copies terms → FineTerm term → spelled reading ≡ front copies terms ++ term_text term
    → step_row copies terms term byte ≡ Some next → Goes reading next byte
from_row reading next copies terms term byte fine fine_term text e =
    elim (is_capital byte) as (λ b. is_capital byte
    ≡ b → cond b (Some (Part copies terms term (byte ∷ []) []))
    (cond (ltb 0 (length term.row)) (step_terms copies (terms ++ (term ∷ [])) byte) None)
    ≡ Some next → Goes reading next byte) [
      | true ↦ λ capital e. goes_to reading (Part copies terms term (byte ∷ []) []) next byte _ refl e
          (record {
            fine = (fine, fine_term, capital, refl);
            text =
                part-spelled copies terms term (byte ∷ []) [] ∙ ap (λ t. t ++ (byte ∷ [])) (sym text);
          })
      | false ↦ λ _ e. elim (ltb 0 (length term.row)) as (λ b. ltb 0 (length term.row)
          ≡ b → cond b (step_terms copies (terms ++ (term ∷ [])) byte) None ≡ Some next → Goes reading next byte) [
            | true ↦ λ some e. from_terms reading next copies (terms ++ (term ∷ [])) byte
                (record {
                  copies_are = fine.copies_are;
                  terms_are =
                      all-more IsTerm terms term fine.terms_are (whole_term term fine_term some);
                }) (text ∙ sym (front-more copies terms term)) e
            | false ↦ λ _ e. absurd (none_next next None refl e)
          ] refl e
    ] refl e

-- ---- one byte behind each reading

digit_or : (reading made next : Reading) (byte : ℕ) (other : Option Reading)
    → (is_ascii_digit byte ≡ true → Goes reading made byte)
    → (other ≡ Some next → Goes reading next byte)
    → cond (is_ascii_digit byte) (Some made) other ≡ Some next → Goes reading next byte
digit_or reading made next byte other digit else e =
    elim (is_ascii_digit byte) as (λ b. is_ascii_digit byte ≡ b → cond b (Some made) other ≡ Some next
    → Goes reading next byte) [
      | true ↦ λ is e. goes_to reading made next byte _ refl e (digit is)
      | false ↦ λ _ e. else e
    ] refl e

byte_or : (reading made next : Reading) (byte is : ℕ) (other : Option Reading) → Goes reading made is
    → (other ≡ Some next → Goes reading next byte) → cond (byte == is) (Some made) other ≡ Some next
    → Goes reading next byte
byte_or reading made next byte is other goes else e =
    elim (byte == is) as (λ b. (byte == is) ≡ b → cond b (Some made) other ≡ Some next → Goes reading next byte) [
      | true ↦ λ same e.
          let equal : is ≡ byte = grind (arith, nat_tests) in
          subst (Goes reading next) equal (goes_to reading made next is _ refl e goes)
      | false ↦ λ _ e. else e
    ] refl e

nothing_else : (reading next : Reading) (byte : ℕ) → None ≡ Some next → Goes reading next byte
nothing_else reading next byte e = absurd (none_next next None refl e)

small-symbol : (symbol : List ℕ) (b : ℕ) → is_symbol symbol ≡ true → ltb (length symbol) 3 ≡ true → is_small b ≡ true
    → is_symbol (symbol ++ (b ∷ [])) ≡ true
small-symbol [] b h short small = cc
small-symbol (x ∷ []) b h short small = and_from (is_capital x) (is_small b) h small
small-symbol (x ∷ y ∷ []) b h short small = and_from (is_capital x && is_small y) (is_small b) h small
small-symbol (x ∷ y ∷ z ∷ []) b h short small = cc
small-symbol (x ∷ y ∷ z ∷ w ∷ more) b h short small = cc

no_tail : (tail : List ℕ) → (length tail == 0) ≡ true → tail ≡ []
no_tail [] h = refl
no_tail (t ∷ tail) h = absurd (grind (arith, nat_tests, h))

small_or : (copies : List ℕ) (terms : List WrittenTerm) (term : WrittenTerm) (symbol tail : List ℕ) (next : Reading) (byte : ℕ) → Fine (Part copies terms term symbol tail) → cond (is_small byte && ltb (length symbol) 3 && (length tail == 0)) (Some (Part copies terms term (symbol ++ (byte ∷ [])) tail)) (step_row copies terms (with_part term symbol tail) byte) ≡ Some next → Goes (Part copies terms term symbol tail) next byte
small_or copies terms term symbol tail next byte fine e =
    let reading = Part copies terms term symbol tail in
    let test = is_small byte && ltb (length symbol) 3 && (length tail == 0) in
    elim test as (λ b. test ≡ b → cond b (Some (Part copies terms term (symbol ++ (byte ∷ [])) tail))
    (step_row copies terms (with_part term symbol tail) byte) ≡ Some next → Goes reading next byte) [
      | true ↦ λ is e.
          let outer = and_parts (is_small byte && ltb (length symbol) 3) (length tail == 0) is in
          let inner = and_parts (is_small byte) (ltb (length symbol) 3) outer.0 in
          let none = no_tail tail outer.1 in
          let made = Part copies terms term (symbol ++ (byte ∷ [])) tail in
          let before = front copies terms ++ term_text term in
          goes_to reading made next byte _ refl e
          (record {
            fine = (fine.0, fine.1, small-symbol symbol byte fine.2 inner.1 inner.0, fine.3);
            text =
                part-spelled copies terms term (symbol ++ (byte ∷ [])) tail
                ∙ ap (λ t. before ++ ((symbol ++ (byte ∷ [])) ++ t)) none
                ∙ ap (λ t. before ++ t) (append-nil (symbol ++ (byte ∷ []))
                ∙ ap (λ s. s ++ (byte ∷ [])) (sym (append-nil symbol)))
                ∙ sym (append_assoc before (symbol ++ []) (byte ∷ []))
                ∙ ap (λ t. (before ++ (symbol ++ t)) ++ (byte ∷ [])) (sym none)
                ∙ ap (λ t. t ++ (byte ∷ [])) (sym (part-spelled copies terms term symbol tail));
          })
      | false ↦ λ _ e. from_row reading next copies terms (with_part term symbol tail) byte fine.0
          (fine-with_part term symbol tail fine.1 fine.2 fine.3) refl e
    ] refl e

goes : (reading next : Reading) (byte : ℕ) → Fine reading → step reading byte ≡ Some next → Goes reading next byte
goes Nothing next byte fine e =
    byte_or Nothing Neutral next byte 77 (cond (byte == 91) (Some (Copies [])) None) (record { fine = tt; text = refl })
    (byte_or Nothing (Copies []) next byte 91 None (record { fine = refl; text = refl }) (nothing_else Nothing next byte)) e
goes Neutral next byte fine e = nothing_else Neutral next byte e
goes (Copies copies) next byte fine e =
    digit_or (Copies copies) (Copies (copies ++ (byte ∷ []))) next byte (cond (byte == 77) (Some (Terms copies [])) None)
    (λ digit. record { fine = digits-more copies byte fine digit; text = refl })
    (byte_or (Copies copies) (Terms copies []) next byte 77 None
    (record { fine = record { copies_are = fine; terms_are = tt }; text = refl }) (nothing_else (Copies copies) next byte))
    e
goes (Terms copies terms) next byte fine e = from_terms (Terms copies terms) next copies terms byte fine refl e
goes (Coefficient copies terms sign coefficient) next byte fine e =
    let reading = Coefficient copies terms sign coefficient in
    digit_or reading (Coefficient copies terms sign (coefficient ++ (byte ∷ []))) next byte
    (step_row copies terms (new_term sign coefficient) byte)
    (λ digit. record {
      fine = (
        fine.0,
        record {
          sign_is = fine.1.sign_is;
          coefficient_is = digits-more coefficient byte fine.1.coefficient_is digit;
          row_is = tt;
        },
      );
      text = sym (append_assoc (front copies terms) (sign ∷ coefficient) (byte ∷ []));
    })
    (from_row reading next copies terms (new_term sign coefficient) byte fine.0 fine.1
    (ap (λ t. front copies terms ++ (sign ∷ t)) (sym (append-nil coefficient)))) e
goes (Row copies terms term) next byte fine e =
    from_row (Row copies terms term) next copies terms term byte fine.0 fine.1 refl e
goes (Part copies terms term symbol tail) next byte fine e =
    let reading = Part copies terms term symbol tail in
    let before = front copies terms ++ term_text term in
    digit_or reading (Part copies terms term symbol (tail ++ (byte ∷ []))) next byte
    (cond (is_small byte && ltb (length symbol) 3 && (length tail == 0))
    (Some (Part copies terms term (symbol ++ (byte ∷ [])) tail)) (step_row copies terms (with_part term symbol tail) byte))
    (λ digit. record {
      fine = (fine.0, fine.1, fine.2, digits-more tail byte fine.3 digit);
      text =
          part-spelled copies terms term symbol (tail ++ (byte ∷ []))
          ∙ ap (λ t. before ++ t) (sym (append_assoc symbol tail (byte ∷ [])))
          ∙ sym (append_assoc before (symbol ++ tail) (byte ∷ []))
          ∙ ap (λ t. t ++ (byte ∷ [])) (sym (part-spelled copies terms term symbol tail));
    })
    (small_or copies terms term symbol tail next byte fine) e
goes (Charge copies terms number) next byte fine e =
    let reading = Charge copies terms number in
    let ion : WrittenIon = record { copies = copies; terms = terms; charge = number; sign = byte } in
    digit_or reading (Charge copies terms (number ++ (byte ∷ []))) next byte (cond (is_sign byte) (Some (Whole ion)) None)
    (λ digit. record {
      fine = (fine.0, digits-more number byte fine.1 digit);
      text = sym (append_assoc (front copies terms) (93 ∷ number) (byte ∷ []));
    })
    (λ e. elim (is_sign byte) as (λ b. is_sign byte ≡ b → cond b (Some (Whole ion)) None ≡ Some next
    → Goes reading next byte) [
      | true ↦ λ sign e. goes_to reading (Whole ion) next byte _ refl e
          (record {
            fine =
                record {
                  copies = fine.0.copies_are;
                  terms = All-from_recursion IsTerm terms fine.0.terms_are;
                  charge = fine.1;
                  sign = sign;
                };
            text =
                ap (λ t. 91 ∷ t) (sym (append_assoc copies (77 ∷ flat_map term_text terms) ((93 ∷ number) ++ (byte ∷ []))))
                ∙ sym (append_assoc (front copies terms) (93 ∷ number) (byte ∷ []));
          })
      | false ↦ λ _ e. nothing_else reading next byte e
    ] refl e) e
goes (Whole ion) next byte fine e = nothing_else (Whole ion) next byte e

-- ---- the whole text

same_written : (a b : Option WrittenIon) (r : Result (Option WrittenIon) ℕ) → r ≡ Ok a → r ≡ Ok b → a ≡ b
same_written a b r d e = cc

no_fault : {A : Type 0} (place : ℕ) (a : A) (r : Result A ℕ) → r ≡ Err place → r ≡ Ok a → ⊥
no_fault place a r d e = cc

ended : (reading : Reading) (at : ℕ) (written : Option WrittenIon) → Fine reading → at_end reading at ≡ Ok written
    → IsAdductOf written (spelled reading)
ended Nothing at written fine e = cc
ended Neutral at written fine e =
    subst (λ w. IsAdductOf w (77 ∷ [])) (same_written None written (Ok None) refl e) (record { is = tt; spelled = refl })
ended (Copies copies) at written fine e = cc
ended (Terms copies terms) at written fine e = cc
ended (Coefficient copies terms sign coefficient) at written fine e = cc
ended (Row copies terms term) at written fine e = cc
ended (Part copies terms term symbol tail) at written fine e = cc
ended (Charge copies terms number) at written fine e = cc
ended (Whole ion) at written fine e =
    subst (λ w. IsAdductOf w (ion_text ion)) (same_written (Some ion) written (Ok (Some ion)) refl e)
    (record { is = fine; spelled = refl })

-- the text that was read, with the rest of it, is the adduct
read-is : (rest : List ℕ) (reading : Reading) (at : ℕ) (written : Option WrittenIon) → Fine reading
    → read_from rest reading at ≡ Ok written → IsAdductOf written (spelled reading ++ rest)
read-is [] reading at written fine e =
    subst (IsAdductOf written) (sym (append-nil (spelled reading)))
    (ended reading at written fine (sym (read-end reading at) ∙ e))
read-is (byte ∷ rest) reading at written fine e =
    elim (step reading byte) as (λ o. step reading byte
    ≡ o → read_on o at (λ next. read_from rest next (at + 1)) ≡ Ok written
    → IsAdductOf written (spelled reading ++ (byte ∷ rest))) [
      | None ↦ λ _ e. absurd (no_fault at written (Err at) refl e)
      | Some next ↦ λ to e.
          let go = goes reading next byte fine to in
          subst (IsAdductOf written) (ap (λ t. t ++ rest) go.text ∙ append_assoc (spelled reading) (byte ∷ []) rest)
          (read-is rest next (at + 1) written go.fine e)
    ] refl (sym (read-byte byte rest reading at) ∙ e)

pub read-whole : (text : List ℕ) (written : Option WrittenIon) → read_from text Nothing 0 ≡ Ok written
    → IsAdductOf written text
read-whole text written e = read-is text Nothing 0 written tt e
