-- What stands at a place of a text: digits, a symbol, a byte; and what stands behind them.
use Rattle.std.proofs.Common.{◌≡◌, ℕ, ◌+◌, ◌-◌, ◌<◌, ◌≤◌, Bool, true, false, List, [], ◌∷◌, ◌++◌, length, take, drop}
use Rattle.std.proofs.Common.{get_or, refl, sym, ap, ◌∙◌, subst, arith, length-append, length-drop, add-one}
use Rattle.std.specs.Prelude.{Option, Some, None, Ok}
use Rattle.std.specs.Char.{is_ascii_digit}
use Rattle.std.specs.List.{prefix_len}
use Rattle.std.proofs.lemmas.Bool.{false≢true}
use Rattle.std.proofs.lemmas.List.{drop-drop}
use Rattle.std.proofs.lemmas.List.Folds.{length-prefix_len}
use Rattle.std.proofs.Math.ListN.{drop_of_length-le}
use Rattle.std.proofs.Math.Seq.{drop-append_seam, drop-cons}
use Rattle.element_table.specs.SymbolText.{is_symbol}
use Rattle.written_items.specs.WrittenItems.{are_digits, begins, EndsSymbol}
use Rattle.fixed_decimal.specs.Decimal.{leading_digits}
use Rattle.written_items.specs.LeadingItems.{leading_symbol}
use Rattle.written_items.proofs.ByteKinds.{take_while-stops}
use Rattle.written_items.proofs.CountTails.{counts-read}
use Rattle.written_items.proofs.LeadingSymbols.{leading_symbol-Some}

-- all the digits that stand at a place
pub record DigitsAt (text : List ℕ) (at : ℕ) (digits : List ℕ) : Type 0 where
  pub are : are_digits digits ≡ true
  pub within : at + length digits ≤ length text
  pub spelled : drop at text ≡ digits ++ drop (at + length digits) text
  pub ends : begins is_ascii_digit (drop (at + length digits) text) ≡ false

in_text : (text front : List ℕ) (at : ℕ) (rest : List ℕ) → at ≤ length text → drop at text ≡ front ++ rest
    → at + length front ≤ length text
in_text text front at rest inside e =
    let whole : length (drop at text) ≡ length front + length rest = ap length e ∙ length-append front rest in
    let len = length-drop at text in
    omega arith

digits_of : (text : List ℕ) (at : ℕ) → at ≤ length text → DigitsAt text at (leading_digits (drop at text))
digits_of text at inside =
    let rest = drop at text in
    let digits = leading_digits rest in
    let behind : drop (length digits) rest ≡ drop (at + length digits) text = drop-drop (length digits) at text in
    let spelled : rest ≡ digits ++ drop (length digits) rest = counts-read.spelled rest digits refl in
    record {
      are = counts-read.is rest digits refl;
      within = in_text text digits at (drop (length digits) rest) inside spelled;
      spelled = spelled ∙ ap (λ r. digits ++ r) behind;
      ends =
          ap (begins is_ascii_digit) (sym behind ∙ ap (λ n. drop n rest) (length-prefix_len is_ascii_digit rest))
          ∙ take_while-stops is_ascii_digit rest;
    }

pub digits_at : (text rest digits : List ℕ) (at : ℕ) → at ≤ length text → rest ≡ drop at text
    → digits ≡ leading_digits rest → DigitsAt text at digits
digits_at text rest digits at inside e is =
    subst (DigitsAt text at) (sym (is ∙ ap leading_digits e)) (digits_of text at inside)

-- the symbol that stands at a place
pub record SymbolAt (text : List ℕ) (at : ℕ) (symbol : List ℕ) : Type 0 where
  pub is : is_symbol symbol ≡ true
  pub some : 0 < length symbol
  pub within : at + length symbol ≤ length text
  pub spelled : drop at text ≡ symbol ++ drop (at + length symbol) text
  pub ends : EndsSymbol symbol (drop (at + length symbol) text)

some_letter : (symbol : List ℕ) → is_symbol symbol ≡ true → 0 < length symbol
some_letter [] h = absurd (false≢true h)
some_letter (a ∷ more) h = omega arith

pub symbol_at : (text rest symbol : List ℕ) (at : ℕ) → at ≤ length text → rest ≡ drop at text
    → Some symbol ≡ leading_symbol rest → SymbolAt text at symbol
symbol_at text rest symbol at inside e is =
    let leading = leading_symbol-Some (drop at text) symbol (ap leading_symbol (sym e) ∙ sym is) in
    let behind : leading.rest ≡ drop (at + length symbol) text =
    sym (drop-append_seam symbol leading.rest) ∙ ap (drop (length symbol)) (sym leading.spelled)
    ∙ drop-drop (length symbol) at text in
    record {
      is = leading.is;
      some = some_letter symbol leading.is;
      within = in_text text symbol at leading.rest inside leading.spelled;
      spelled = leading.spelled ∙ ap (λ r. symbol ++ r) behind;
      ends = subst (EndsSymbol symbol) behind leading.ends;
    }

-- the byte that stands at a place
pub byte_at : (text : List ℕ) (at : ℕ) → at < length text → drop at text ≡ get_or text at 0 ∷ drop (at + 1) text
byte_at text at inside = drop-cons text at 0 inside ∙ ap (λ n. get_or text at 0 ∷ drop n text) (sym (add-one at))

-- a text that begins with a byte of a kind has one there
pub some_byte : (p : ℕ → Bool) (text : List ℕ) (at : ℕ) → begins p (drop at text) ≡ true → at < length text
some_byte p text at h = inside (drop at text) refl
  where
    inside : (rest : List ℕ) → rest ≡ drop at text → at < length text
    inside [] e = absurd (false≢true (ap (begins p) e ∙ h))
    inside (b ∷ rest) e =
        let len = length-drop at text in
        let whole : length (drop at text) ≡ 1 + length rest = ap length (sym e) ∙ omega arith in
        omega arith

pub byte_is : (p : ℕ → Bool) (text : List ℕ) (at : ℕ) (b : Bool) → begins p (drop at text) ≡ b → at < length text
    → p (get_or text at 0) ≡ b
byte_is p text at b h inside = ap (begins p) (sym (byte_at text at inside)) ∙ h

-- and none stands behind its end
pub no_byte : (text : List ℕ) (at : ℕ) → length text ≤ at → drop at text ≡ []
no_byte text at past = drop_of_length-le text past
