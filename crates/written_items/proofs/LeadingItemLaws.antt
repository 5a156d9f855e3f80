-- The item that a text begins with: what is written is read, what is read is written, and where none can go on
-- is the place of bad text.
use Rattle.std.proofs.Common.{◌≡◌, ℕ, ◌+◌, ◌≤◌, Bool, true, false, cond, eqb, List, [], ◌∷◌, ◌++◌, length, drop}
use Rattle.std.proofs.Common.{refl, sym, ap, subst, ◌∙◌, arith, append_assoc, ◌-◌, ◌^◌, length-append}
use Rattle.std.specs.Prelude.{min}
use Rattle.std.specs.Str.Parse.{digits_value}
use Rattle.std.specs.Prelude.{Option, Some, None, Result, Ok, Err, IsTrue, IfSome, IfOk, IfErr}
use Rattle.std.specs.List.{prefix_len}
use Rattle.std.specs.Char.{is_ascii_digit}
use Rattle.std.proofs.lemmas.Bool.{false≢true, and_parts, eqb-true, eqb-false, ne_eqb, or_from, or_left}
use Rattle.std.proofs.lemmas.Bool.{false_from_ne_true}
use Rattle.std.proofs.lemmas.List.{take-append-drop}
use Rattle.std.proofs.lemmas.List.Folds.{length-prefix_len}
use Rattle.std.proofs.Math.Seq.{drop-append_seam}
use Rattle.fixed_decimal.specs.Decimal.{leading_digits}
use Rattle.fixed_decimal.specs.DecimalTexts.{IsDigits}
use Rattle.fixed_decimal.proofs.LeadingDigits.{leading_digits-AllDigits}
use Rattle.element_table.specs.SymbolText.{is_symbol, is_capital, is_small}
use Rattle.reader_answers.specs.BadPlaces.{IsBadPlace}
use Rattle.written_items.specs.Items.{opening_bracket, closing_bracket}
use Rattle.written_items.specs.WrittenItems.{WrittenItem, IsWrittenItem, are_digits, text_with, written_text, begins}
use Rattle.written_items.specs.WrittenItems.{is_item_start, EndsSymbol, IsLeadingItem, TellsLeadingItem, BeginsWithItem}
use Rattle.written_items.specs.declared.item.LeadingItem.{LeadingItem}
use Rattle.written_items.specs.declared.item.BadItem.{BadItem}
use Rattle.written_items.specs.LeadingItems.{symbol_letters, leading_symbol, closed_item, numbered_item, labelled_item}
use Rattle.written_items.specs.LeadingItems.{plain_item, leading_item, item_answer}
use Rattle.written_items.proofs.BadPlaceSteps.{first_byte, bad-here, bad-behind}
use Rattle.written_items.proofs.ByteKinds.{capital-digit, begins-first, digits-numeral, numeral-digits}
use Rattle.written_items.proofs.ByteKinds.{take_while-run, take_while-stops}
use Rattle.written_items.proofs.LeadingSymbols.{append-cancel, begins-symbol, symbol_letters-written}
use Rattle.written_items.proofs.LeadingSymbols.{leading_symbol-written, leading_symbol-Some, leading_symbol-None}

abbrev is_closing : ℕ → Bool
is_closing byte = eqb byte closing_bracket

abbrev is_opening : ℕ → Bool
is_opening byte = eqb byte opening_bracket

-- ---- the parts of an item in brackets: what is behind its symbol, behind its digits, and behind its first bracket

record Closed (text : List ℕ) : Type 0 where
  rest : List ℕ
  spelled : text ≡ closing_bracket ∷ rest

record SymbolClosed (text : List ℕ) : Type 0 where
  letters : List ℕ
  is : IsTrue (is_symbol letters)
  rest : List ℕ
  spelled : text ≡ letters ++ (closing_bracket ∷ rest)

record NumberClosed (text : List ℕ) : Type 0 where
  digits : List ℕ
  number : IsDigits digits
  letters : List ℕ
  is : IsTrue (is_symbol letters)
  rest : List ℕ
  spelled : text ≡ digits ++ (letters ++ (closing_bracket ∷ rest))

-- a symbol is no digit, and digits begin with one
begins-letters : (s rest : List ℕ) → is_symbol s ≡ true → begins is_ascii_digit (s ++ rest) ≡ false
begins-letters [] rest h = absurd (false≢true h)
begins-letters (a ∷ s) rest h = capital-digit a (begins-symbol (a ∷ s) rest h)

begins-number : (ds rest : List ℕ) → IsDigits ds → begins is_ascii_digit (ds ++ rest) ≡ true
begins-number [] rest h = let some = h.0 in absurd (omega (arith, some))
begins-number (d ∷ ds) rest h = (and_parts (is_ascii_digit d) (are_digits ds) (numeral-digits (d ∷ ds) h.1)).0

-- a text that begins with an item begins with a capital letter or a bracket
starts_with : (o : Option (List ℕ)) (s rest : List ℕ) → is_symbol s ≡ true
    → begins is_item_start (text_with o s ++ rest) ≡ true
starts_with None [] rest h = absurd (false≢true h)
starts_with None (a ∷ s) rest h = or_left (is_capital a) (is_opening a) (begins-symbol (a ∷ s) rest h)
starts_with (Some ds) s rest h = refl

pub begins-written : (w : WrittenItem) (rest : List ℕ) → IsWrittenItem w
    → begins is_item_start (written_text w ++ rest) ≡ true
begins-written w rest h = starts_with w.digits w.symbol rest h.symbol

-- no text of the grammar begins as this one where its first byte isn't of the kind that begins all of them
kind-absent : (IsText : List ℕ → Type 0) (kind : ℕ → Bool) (text : List ℕ)
    → ((other : List ℕ) → IsText other → begins kind other ≡ true) → begins kind text ≡ false → (other : List ℕ)
    → first_byte other ≡ first_byte text → IsText other → ⊥
kind-absent IsText kind text all absent other same is =
    false≢true (sym (begins-first kind other text same ∙ absent) ∙ all other is)

bad_closed : (text : List ℕ) → begins is_closing text ≡ false → IsBadPlace Closed text 0
bad_closed text absent =
    bad-here Closed text (closing_bracket ∷ [], record { rest = []; spelled = refl })
    (kind-absent Closed is_closing text (λ other is. ap (begins is_closing) is.spelled) absent)

bad_symbol : (text : List ℕ) → begins is_capital text ≡ false → IsBadPlace SymbolClosed text 0
bad_symbol text absent =
    bad-here SymbolClosed text
    (72 ∷ closing_bracket ∷ [], record { letters = 72 ∷ []; is = refl; rest = []; spelled = refl })
    (kind-absent SymbolClosed is_capital text
    (λ other is. ap (begins is_capital) is.spelled
    ∙ begins-symbol is.letters (closing_bracket ∷ is.rest) is.is) absent)

bad_number : (text : List ℕ) → begins is_ascii_digit text ≡ false → IsBadPlace NumberClosed text 0
bad_number text absent =
    bad-here NumberClosed text (
      50 ∷ 72 ∷ closing_bracket ∷ [],
      record {
        digits = 50 ∷ [];
        number = (omega arith, digits-numeral (50 ∷ []) refl);
        letters = 72 ∷ [];
        is = refl;
        rest =
            [];
        spelled = refl;
      },
    )
    (kind-absent NumberClosed is_ascii_digit text
    (λ other is. ap (begins is_ascii_digit) is.spelled
    ∙ begins-number is.digits (is.letters ++ (closing_bracket ∷ is.rest)) is.number) absent)

bad_item : (text : List ℕ) → begins is_item_start text ≡ false → IsBadPlace BeginsWithItem text 0
bad_item text absent =
    bad-here BeginsWithItem text (
      72 ∷ [],
      record {
        item = record { symbol = 72 ∷ []; digits = None };
        is =
            record { symbol = refl; digits = tt };
        rest = [];
        spelled = refl;
      },
    )
    (kind-absent BeginsWithItem is_item_start text
    (λ other is. ap (begins is_item_start) is.spelled ∙ begins-written is.item is.rest is.is) absent)

-- ---- one part behind another

closed_behind : (s rest : List ℕ) (place : ℕ) → is_symbol s ≡ true → EndsSymbol s rest → IsBadPlace Closed rest place
    → IsBadPlace SymbolClosed (s ++ rest) (length s + place)
closed_behind s rest place h ends bad =
    bad-behind SymbolClosed Closed s rest place
    (λ other is. record { letters = s; is = h; rest = is.rest; spelled = ap (λ t. s ++ t) is.spelled })
    (λ other same is.
    let mine = symbol_letters-written s other h (λ short. begins-first is_small other rest same ∙ ends short) in
    let its = symbol_letters-written is.letters (closing_bracket ∷ is.rest) is.is (λ short. refl) in
    let letters : s ≡ is.letters = sym mine ∙ ap symbol_letters is.spelled ∙ its in
    record {
      rest = is.rest;
      spelled = append-cancel s is.letters other
          (closing_bracket ∷ is.rest) letters is.spelled;
    })
    bad

symbol_behind : (ds rest : List ℕ) (place : ℕ) → IsDigits ds → begins is_ascii_digit rest ≡ false
    → IsBadPlace SymbolClosed rest place → IsBadPlace NumberClosed (ds ++ rest) (length ds + place)
symbol_behind ds rest place number ends bad =
    bad-behind NumberClosed SymbolClosed ds rest place
    (λ other is. record {
      digits = ds;
      number = number;
      letters = is.letters;
      is = is.is;
      rest = is.rest;
      spelled = ap
          (λ t. ds ++ t) is.spelled;
    })
    (λ other same is.
    let behind = is.letters ++ (closing_bracket ∷ is.rest) in
    let mine =
    take_while-run is_ascii_digit ds other (numeral-digits ds number.1)
    (begins-first is_ascii_digit other rest same ∙ ends) in
    let its =
    take_while-run is_ascii_digit is.digits behind (numeral-digits is.digits is.number.1)
    (begins-letters is.letters (closing_bracket ∷ is.rest) is.is) in
    let digits : ds ≡ is.digits = sym mine ∙ ap leading_digits is.spelled ∙ its in
    record {
      letters = is.letters;
      is = is.is;
      rest = is.rest;
      spelled =
          append-cancel ds is.digits other behind digits is.spelled;
    })
    bad

bracketed : (ds s rest : List ℕ) → ds ++ (s ++ (closing_bracket ∷ rest)) ≡ (ds ++ (s ++ (closing_bracket ∷ []))) ++ rest
bracketed ds s rest =
    sym (append_assoc ds (s ++ (closing_bracket ∷ [])) rest
    ∙ ap (λ t. ds ++ t) (append_assoc s (closing_bracket ∷ []) rest))

in_brackets : (o : Option (List ℕ)) (s other rest : List ℕ) → is_symbol s ≡ true → IfSome o IsDigits
    → opening_bracket ∷ other ≡ text_with o s ++ rest → NumberClosed other
in_brackets None s other rest h digits e =
    absurd (false≢true (ap (begins is_capital) e ∙ begins-symbol s rest h))
in_brackets (Some ds) s other rest h digits e =
    record {
      digits = ds;
      number = digits;
      letters = s;
      is = h;
      rest = rest;
      spelled = ap (drop 1) e
          ∙ sym (bracketed ds s rest);
    }

number_behind : (rest : List ℕ) (place : ℕ) → IsBadPlace NumberClosed rest place
    → IsBadPlace BeginsWithItem (opening_bracket ∷ rest) (1 + place)
number_behind rest place bad =
    bad-behind BeginsWithItem NumberClosed (opening_bracket ∷ []) rest place
    (λ other is. record {
      item = record { symbol = is.letters; digits = Some is.digits };
      is = record { symbol = is.is; digits = is.number };
      rest = is.rest;
      spelled = ap (λ t. opening_bracket ∷ t) (is.spelled ∙ bracketed is.digits is.letters is.rest);
    })
    (λ other same is. in_brackets is.item.digits is.item.symbol other is.rest is.is.symbol is.is.digits is.spelled)
    bad

-- ---- what is read

-- the item in brackets whose digits are these and whose text behind them is this
record IsNumbered (ds text : List ℕ) (w : WrittenItem) : Type 0 where
  digits_are : w.digits ≡ Some ds
  letters_are : IsTrue (is_symbol w.symbol)
  rest : List ℕ
  spelled : text ≡ w.symbol ++ (closing_bracket ∷ rest)

closing_there : (text : List ℕ) → begins is_closing text ≡ true → text ≡ closing_bracket ∷ drop 1 text
closing_there [] h = absurd (false≢true h)
closing_there (b ∷ rest) h = ap (λ c. c ∷ rest) (eqb-true b closing_bracket h)

abbrev closed_if : List ℕ → List ℕ → Bool → Result WrittenItem ℕ
closed_if ds s b = cond b (Ok (record { symbol = s; digits = Some ds })) (Err (1 + length ds + length s))

closed-Ok : (ds text : List ℕ) (o : Option (List ℕ)) (w : WrittenItem) → leading_symbol text ≡ o
    → closed_item ds o text ≡ Ok w → IsNumbered ds text w
closed-Ok ds text None w read e = cc
closed-Ok ds text (Some s) w read e =
    let symbol = leading_symbol-Some text s read in
    let behind : drop (length s) text ≡ symbol.rest =
    ap (drop (length s)) symbol.spelled ∙ drop-append_seam s symbol.rest in
    elim (begins is_closing (drop (length s) text)) as (λ b. begins is_closing (drop (length s) text)
    ≡ b → closed_if ds s b ≡ Ok w → IsNumbered ds text w) [
      | true ↦ λ closed e.
          let same : record { symbol = s; digits = Some ds } ≡ w = cc in
          subst (IsNumbered ds text) same (record {
            digits_are = refl;
            letters_are = symbol.is;
            rest = drop 1 symbol.rest;
            spelled =
                symbol.spelled ∙ ap (λ t. s ++ t)
                (closing_there symbol.rest (sym (ap (begins is_closing) behind) ∙ closed));
          })
      | false ↦ λ closed e. cc
    ] refl e

record BadBehind (IsText : List ℕ → Type 0) (front : ℕ) (text : List ℕ) (place : ℕ) : Type 0 where
  behind : ℕ
  is : place ≡ front + behind
  bad : IsBadPlace IsText text behind

err_value : (r : Result WrittenItem ℕ) (m n : ℕ) → r ≡ Err m → r ≡ Err n → m ≡ n
err_value r m n d e = cc

no_fault : (w : WrittenItem) (place : ℕ) → Ok w ≡ Err place → ⊥
no_fault w place e = cc

closed-Err : (ds text : List ℕ) (o : Option (List ℕ)) (place : ℕ) → leading_symbol text ≡ o
    → closed_item ds o text ≡ Err place → BadBehind SymbolClosed (1 + length ds) text place
closed-Err ds text None place read e =
    let same : 1 + length ds ≡ place = cc in
    record { behind = 0; is = omega arith; bad = bad_symbol text (leading_symbol-None text read) }
closed-Err ds text (Some s) place read e =
    let symbol = leading_symbol-Some text s read in
    let behind : drop (length s) text ≡ symbol.rest =
    ap (drop (length s)) symbol.spelled ∙ drop-append_seam s symbol.rest in
    elim (begins is_closing (drop (length s) text)) as (λ b. begins is_closing (drop (length s) text)
    ≡ b → closed_if ds s b ≡ Err place → BadBehind SymbolClosed (1 + length ds) text place) [
      | true ↦ λ closed e. absurd (no_fault _ place e)
      | false ↦ λ other e.
          let same : 1 + length ds + length s ≡ place =
          err_value (Err (1 + length ds + length s)) (1 + length ds + length s) place refl e in
          record {
            behind = length s + 0;
            is = omega arith;
            bad = subst (λ t. IsBadPlace SymbolClosed t (length s + 0)) (sym symbol.spelled)
                (closed_behind s symbol.rest 0 symbol.is symbol.ends
                (bad_closed symbol.rest (sym (ap (begins is_closing) behind) ∙ other)));
          }
    ] refl e

-- what is behind the digits that a text begins with
record DigitsRead (text : List ℕ) : Type 0 where
  rest : List ℕ
  is_rest : drop (length (leading_digits text)) text ≡ rest
  spelled : text ≡ leading_digits text ++ rest
  ends : begins is_ascii_digit rest ≡ false

digits_read : (text : List ℕ) → DigitsRead text
digits_read text =
    let count = prefix_len is_ascii_digit text in
    let len : length (leading_digits text) ≡ count = length-prefix_len is_ascii_digit text in
    record {
      rest = drop count text;
      is_rest = ap (λ n. drop n text) len;
      spelled = sym (take-append-drop count text);
      ends = take_while-stops is_ascii_digit text;
    }

none_left : (xs : List ℕ) → length xs ≡ 0 → xs ≡ []
none_left [] h = refl
none_left (x ∷ xs) h = absurd (omega arith)

labelled-Err : (text : List ℕ) (place : ℕ) → labelled_item text ≡ Err place → BadBehind NumberClosed 1 text place
labelled-Err text place e =
    let ds = leading_digits text in
    let read = digits_read text in
    elim (eqb (length ds) 0) as (λ b. eqb (length ds) 0
    ≡ b → cond b (Err 1) (closed_item ds (leading_symbol (drop (length ds) text)) (drop (length ds) text))
    ≡ Err place → BadBehind NumberClosed 1 text place) [
      | true ↦ λ none e.
          let same : 1 ≡ place = cc in
          let whole : text ≡ read.rest =
          read.spelled ∙ ap (λ t. t ++ read.rest) (none_left ds (eqb-true (length ds) 0 none)) in
          record { behind = 0; is = omega arith; bad = bad_number text (ap (begins is_ascii_digit) whole ∙ read.ends) }
      | false ↦ λ some e.
          let bad = closed-Err ds (drop (length ds) text) (leading_symbol (drop (length ds) text)) place refl e in
          let is : place ≡ 1 + length ds + bad.behind = bad.is in
          let number : IsDigits ds =
          (omega (arith, eqb-false (length ds) 0 some), leading_digits-AllDigits text) in
          record {
            behind = length ds + bad.behind;
            is = omega arith;
            bad = subst (λ t. IsBadPlace NumberClosed t (length ds + bad.behind)) (sym read.spelled)
                (symbol_behind ds read.rest bad.behind number read.ends
                (subst (λ t. IsBadPlace SymbolClosed t bad.behind) read.is_rest bad.bad));
          }
    ] refl e

record IsLabelled (text : List ℕ) (w : WrittenItem) : Type 0 where
  digits : List ℕ
  digits_are : w.digits ≡ Some digits
  number : IsDigits digits
  letters_are : IsTrue (is_symbol w.symbol)
  rest : List ℕ
  spelled : text ≡ digits ++ (w.symbol ++ (closing_bracket ∷ rest))

labelled-Ok : (text : List ℕ) (w : WrittenItem) → labelled_item text ≡ Ok w → IsLabelled text w
labelled-Ok text w e =
    let ds = leading_digits text in
    let read = digits_read text in
    elim (eqb (length ds) 0) as (λ b. eqb (length ds) 0
    ≡ b → cond b (Err 1) (closed_item ds (leading_symbol (drop (length ds) text)) (drop (length ds) text)) ≡ Ok w
    → IsLabelled text w) [
      | true ↦ λ none e. cc
      | false ↦ λ some e.
          let item = closed-Ok ds (drop (length ds) text) (leading_symbol (drop (length ds) text)) w refl e in
          record {
            digits = ds;
            digits_are = item.digits_are;
            number =
                (omega (arith, eqb-false (length ds) 0 some), leading_digits-AllDigits text);
            letters_are = item.letters_are;
            rest = item.rest;
            spelled = read.spelled ∙ ap (λ t. ds ++ t) (sym read.is_rest ∙ item.spelled);
          }
    ] refl e

-- an item in brackets before any text is read
labelled-written : (ds s rest : List ℕ) → IsDigits ds → is_symbol s ≡ true
    → labelled_item (ds ++ (s ++ (closing_bracket ∷ rest))) ≡ Ok (record { symbol = s; digits = Some ds })
labelled-written ds s rest number h =
    let behind = s ++ (closing_bracket ∷ rest) in
    let digits : leading_digits (ds ++ behind) ≡ ds =
    take_while-run is_ascii_digit ds behind (numeral-digits ds number.1) (begins-letters s (closing_bracket ∷ rest) h)
    in
    let some : eqb (length ds) 0 ≡ false =
    ne_eqb (length ds) 0 (λ none. let few = number.0 in absurd (omega (arith, none, few))) in
    ap (λ d. numbered_item d (drop (length d) (ds ++ behind))) digits
    ∙ ap (numbered_item ds) (drop-append_seam ds behind)
    ∙ ap (λ b. cond b (Err 1) (closed_item ds (leading_symbol behind) behind)) some
    ∙ ap (λ o. closed_item ds o behind) (leading_symbol-written s (closing_bracket ∷ rest) h (λ short. refl))
    ∙ ap (λ t. cond (begins is_closing t) (Ok (record { symbol = s; digits = Some ds }))
    (Err (1 + length ds + length s))) (drop-append_seam s (closing_bracket ∷ rest))

-- ---- the item that a text begins with

opening_there : (text : List ℕ) → begins is_opening text ≡ true → text ≡ opening_bracket ∷ drop 1 text
opening_there [] h = absurd (false≢true h)
opening_there (b ∷ rest) h = ap (λ c. c ∷ rest) (eqb-true b opening_bracket h)

starts-neither : (text : List ℕ) → begins is_capital text ≡ false → begins is_opening text ≡ false
    → begins is_item_start text ≡ false
starts-neither [] h e = refl
starts-neither (b ∷ rest) h e = or_from (is_capital b) (is_opening b) h e

plain-Err : (text : List ℕ) (o : Option (List ℕ)) (place : ℕ) → leading_symbol text ≡ o → begins is_opening text ≡ false
    → plain_item o ≡ Err place → IsBadPlace BeginsWithItem text place
plain-Err text None place read other e =
    let same : 0 ≡ place = cc in
    subst (IsBadPlace BeginsWithItem text) same
    (bad_item text (starts-neither text (leading_symbol-None text read) other))
plain-Err text (Some s) place read other e = cc

-- where none is read is the place of bad text
pub leading_item-Err : (text : List ℕ) (place : ℕ) → leading_item text ≡ Err place
    → IsBadPlace BeginsWithItem text place
unfolding leading_item
leading_item-Err text place e =
    elim (begins is_opening text) as (λ b. begins is_opening text
    ≡ b → cond b (labelled_item (drop 1 text)) (plain_item (leading_symbol text)) ≡ Err place
    → IsBadPlace BeginsWithItem text place) [
      | true ↦ λ bracket e.
          let bad = labelled-Err (drop 1 text) place e in
          subst (λ t. IsBadPlace BeginsWithItem t place) (sym (opening_there text bracket))
          (subst (IsBadPlace BeginsWithItem (opening_bracket ∷ drop 1 text)) (sym bad.is)
          (number_behind (drop 1 text) bad.behind bad.bad))
      | false ↦ λ other e. plain-Err text (leading_symbol text) place refl other e
    ] refl e

plain-Ok : (text : List ℕ) (o : Option (List ℕ)) (w : WrittenItem) → leading_symbol text ≡ o → plain_item o ≡ Ok w
    → IsLeadingItem text w
plain-Ok text None w read e = cc
plain-Ok text (Some s) w read e =
    let symbol = leading_symbol-Some text s read in
    let same : record { symbol = s; digits = None } ≡ w = cc in
    subst (IsLeadingItem text) same (record {
      is = record { symbol = symbol.is; digits = tt };
      rest = symbol.rest;
      spelled = symbol.spelled;
      ends = λ _. symbol.ends;
    })

bracketed_item : (text : List ℕ) (w : WrittenItem) → begins is_opening text ≡ true → IsLabelled (drop 1 text) w
    → IsLeadingItem text w
bracketed_item text w bracket item =
    record {
      is =
          record {
            symbol = item.letters_are;
            digits = subst (λ o. IfSome o IsDigits)
                (sym item.digits_are) item.number;
          };
      rest = item.rest;
      spelled =
          opening_there text bracket
          ∙ ap (λ t. opening_bracket ∷ t) (item.spelled ∙ bracketed item.digits w.symbol item.rest)
          ∙ ap (λ o. text_with o w.symbol ++ item.rest) (sym item.digits_are);
      ends = λ none. let both : None ≡ Some item.digits = sym none ∙ item.digits_are in cc;
    }

-- what is read is the item that the text begins with
pub leading_item-Ok : (text : List ℕ) (w : WrittenItem) → leading_item text ≡ Ok w → IsLeadingItem text w
unfolding leading_item
leading_item-Ok text w e =
    elim (begins is_opening text) as (λ b. begins is_opening text
    ≡ b → cond b (labelled_item (drop 1 text)) (plain_item (leading_symbol text)) ≡ Ok w → IsLeadingItem text w) [
      | true ↦ λ bracket e. bracketed_item text w bracket (labelled-Ok (drop 1 text) w e)
      | false ↦ λ other e. plain-Ok text (leading_symbol text) w refl e
    ] refl e

no_bracket : (s rest : List ℕ) → is_symbol s ≡ true → begins is_opening (s ++ rest) ≡ false
no_bracket [] rest h = absurd (false≢true h)
no_bracket (a ∷ s) rest h =
    false_from_ne_true (is_opening a)
    (λ bracket. false≢true (ap is_capital (sym (eqb-true a opening_bracket bracket)) ∙ begins-symbol
    (a ∷ s) rest h))

written : (o : Option (List ℕ)) (s rest : List ℕ) → is_symbol s ≡ true → IfSome o IsDigits
    → (o ≡ None → EndsSymbol s rest) → leading_item (text_with o s ++ rest) ≡ Ok (record { symbol = s; digits = o })
unfolding leading_item
written None s rest h digits ends =
    ap (λ b. cond b (labelled_item (drop 1 (s ++ rest))) (plain_item (leading_symbol (s ++ rest))))
    (no_bracket s rest h)
    ∙ ap plain_item (leading_symbol-written s rest h (ends refl))
written (Some ds) s rest h digits ends =
    ap labelled_item (sym (bracketed ds s rest)) ∙ labelled-written ds s rest digits h

-- an item is read before a text that doesn't go on with its symbol
pub leading_item-written : (w : WrittenItem) (rest : List ℕ) → IsWrittenItem w
    → (w.digits ≡ None → EndsSymbol w.symbol rest) → leading_item (written_text w ++ rest) ≡ Ok w
leading_item-written w rest is ends = written w.digits w.symbol rest is.symbol is.digits ends

-- ---- what a reader tells

pub TellsLeadingItem-item_answer : (text : List ℕ) (r : Result LeadingItem BadItem)
    → r ≡ item_answer (leading_item text)
    → IfOk r (TellsLeadingItem text)
TellsLeadingItem-item_answer text r e =
    elim (leading_item text) as (λ o. leading_item text ≡ o → r ≡ item_answer o → IfOk r (TellsLeadingItem text)) [
      | Ok w ↦ λ is e. subst (λ r. IfOk r (TellsLeadingItem text)) (sym e)
          (record { item = w; leading = leading_item-Ok text w is; value_is = refl })
      | Err place ↦ λ is e. subst (λ r. IfOk r (TellsLeadingItem text)) (sym e) tt
    ] refl e

pub IsBadPlace-item_answer : (text : List ℕ) (r : Result LeadingItem BadItem) → r ≡ item_answer (leading_item text)
    → IfErr r (λ e. IsBadPlace BeginsWithItem text e.at)
IsBadPlace-item_answer text r e =
    elim (leading_item text) as (λ o. leading_item text ≡ o → r
    ≡ item_answer o → IfErr r (λ e. IsBadPlace BeginsWithItem text e.at)) [
      | Ok w ↦ λ is e. subst (λ r. IfErr r (λ (e : BadItem). IsBadPlace BeginsWithItem text e.at)) (sym e) tt
      | Err place ↦ λ is e. subst (λ r. IfErr r (λ (e : BadItem). IsBadPlace BeginsWithItem text e.at)) (sym e)
          (leading_item-Err text place is)
    ] refl e

pub begins-some : (p : ℕ → Bool) (text : List ℕ) → begins p text ≡ true → 1 ≤ length text
begins-some p [] h = absurd (false≢true h)
begins-some p (b ∷ rest) h = omega arith

-- the item with brackets, and the one without

pub labelled-leading_item : (text : List ℕ) → begins is_opening text ≡ true
    → item_answer (labelled_item (drop 1 text)) ≡ item_answer (leading_item text)
unfolding leading_item
labelled-leading_item text bracket =
    sym (ap (λ b. item_answer (cond b (labelled_item (drop 1 text)) (plain_item (leading_symbol text)))) bracket)

pub plain-leading_item : (text : List ℕ) → begins is_opening text ≡ false
    → item_answer (plain_item (leading_symbol text)) ≡ item_answer (leading_item text)
unfolding leading_item
plain-leading_item text other =
    sym (ap (λ b. item_answer (cond b (labelled_item (drop 1 text)) (plain_item (leading_symbol text)))) other)

abbrev told_item : List ℕ → ℕ → ℕ → Result LeadingItem BadItem
told_item s number count = Ok (record { symbol = s; number = Some number; byte_count = count })

-- the item in brackets of these digits and this symbol, as a reader tells it
pub item_answer-labelled : (text ds s : List ℕ) (number : ℕ) → ds ≡ leading_digits text → eqb (length ds) 0 ≡ false
    → leading_symbol (drop (length ds) text) ≡ Some s
    → begins is_closing (drop (length s) (drop (length ds) text)) ≡ true
    → number ≡ min (digits_value 10 ds) (2 ^ 32 - 1)
    → told_item s number (1 + length ds + length s + 1) ≡ item_answer (labelled_item text)
item_answer-labelled text ds s number digits some symbol closed value =
    let behind = drop (length ds) text in
    let item : WrittenItem = record { symbol = s; digits = Some ds } in
    let size : 1 + length ds + length s + 1 ≡ length (written_text item) =
    omega (arith, length-append ds (s ++ closing_bracket ∷ []), length-append s (closing_bracket ∷ [])) in
    ap (λ n. told_item s n (1 + length ds + length s + 1)) value
    ∙ ap (λ n. told_item s (min (digits_value 10 ds) (2 ^ 32 - 1)) n) size
    ∙ sym (ap (λ b. item_answer (closed_if ds s b)) closed)
    ∙ sym (ap (λ o. item_answer (closed_item ds o behind)) symbol)
    ∙ sym (ap (λ b. item_answer (cond b (Err 1) (closed_item ds (leading_symbol behind) behind))) some)
    ∙ ap (λ d. item_answer (numbered_item d (drop (length d) text))) digits
