-- The digits of a count, as many as follow, are the tails of rows with counts.
use Rattle.std.proofs.Common.{◌≡◌, ℕ, true, false, List, [], ◌∷◌, ◌++◌, length, drop, refl, sym, ap, ◌∙◌}
use Rattle.std.specs.Prelude.{Result, Ok, Err}
use Rattle.std.specs.List.{prefix_len}
use Rattle.std.specs.Char.{is_ascii_digit}
use Rattle.std.proofs.lemmas.Bool.{and_parts, not-false}
use Rattle.std.proofs.lemmas.List.{take-append-drop}
use Rattle.std.proofs.lemmas.List.Folds.{length-prefix_len}
use Rattle.std.proofs.Math.Seq.{drop-append_seam}
use Rattle.element_table.specs.SymbolText.{is_small}
use Rattle.written_items.specs.WrittenItems.{are_digits, begins, is_item_start}
use Rattle.written_items.specs.WrittenRows.{IsCountTail}
use Rattle.fixed_decimal.specs.Decimal.{leading_digits}
use Rattle.written_items.specs.RowReading.{count_tail}
use Rattle.written_items.proofs.BadPlaceSteps.{first_byte}
use Rattle.written_items.proofs.ByteKinds.{digit-small, start-digit, begins-first, take_while-run, take_while-passes}
use Rattle.written_items.proofs.ByteKinds.{take_while-stops}
use Rattle.written_items.proofs.RowLaws.{StartsItem, ReadsTails}

digits-no_small : (tail : List ℕ) → IsCountTail tail → begins is_small tail ≡ false
digits-no_small [] h = refl
digits-no_small (d ∷ ds) h = digit-small d (and_parts (is_ascii_digit d) (are_digits ds) h).0

same_digits : (digits tail : List ℕ) (r : Result (List ℕ) ℕ) → r ≡ Ok digits → r ≡ Ok tail → digits ≡ tail
same_digits digits tail r a b = cc

read_digits : (text tail : List ℕ) → count_tail text ≡ Ok tail → leading_digits text ≡ tail
read_digits text tail e = same_digits (leading_digits text) tail (count_tail text) refl e

no_digit_first : (text : List ℕ) → StartsItem text → begins is_ascii_digit text ≡ false
no_digit_first [] h = refl
no_digit_first (b ∷ rest) h = start-digit b (not-false (is_item_start b) h)

digits-spelled : (text tail : List ℕ) → count_tail text ≡ Ok tail → text ≡ tail ++ drop (length tail) text
digits-spelled text tail e =
    let same = read_digits text tail e in
    let len = length-prefix_len is_ascii_digit text in
    sym (take-append-drop (prefix_len is_ascii_digit text) text)
    ∙ ap (λ n. leading_digits text ++ drop n text) (sym len)
    ∙ ap (λ t. t ++ drop (length t) text) same

digits-stay : (tail rest other : List ℕ) → count_tail (tail ++ rest) ≡ Ok tail → first_byte other ≡ first_byte rest
    → count_tail (tail ++ other) ≡ Ok tail
digits-stay tail rest other e same =
    let read = read_digits (tail ++ rest) tail e in
    let len : prefix_len is_ascii_digit (tail ++ rest) ≡ length tail =
    sym (length-prefix_len is_ascii_digit (tail ++ rest)) ∙ ap length read in
    let behind : drop (prefix_len is_ascii_digit (tail ++ rest)) (tail ++ rest) ≡ rest =
    ap (λ n. drop n (tail ++ rest)) len ∙ drop-append_seam tail rest in
    let stops : begins is_ascii_digit rest ≡ false =
    ap (begins is_ascii_digit) (sym behind) ∙ take_while-stops is_ascii_digit (tail ++ rest) in
    let passes : are_digits tail ≡ true = ap are_digits (sym read) ∙ take_while-passes is_ascii_digit (tail ++ rest) in
    ap Ok (take_while-run is_ascii_digit tail other passes (begins-first is_ascii_digit other rest same ∙ stops))

no_fault : (digits : List ℕ) (place : ℕ) → Ok digits ≡ Err place → ⊥
no_fault digits place e = cc

pub counts-read : ReadsTails IsCountTail count_tail
counts-read =
    record {
      none = refl;
      no_small = digits-no_small;
      is = λ text tail e. sym (ap are_digits (read_digits text tail e)) ∙ take_while-passes is_ascii_digit text;
      spelled = digits-spelled;
      stays = digits-stay;
      written = λ tail rest h starts. ap Ok (take_while-run is_ascii_digit tail rest h (no_digit_first rest starts));
      bad = λ text place e. absurd (no_fault (leading_digits text) place e);
    }
