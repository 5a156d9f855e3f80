-- The text of an isotope with its count, and what is read of it.
use Rattle.std.proofs.Common.{◌≡◌, ℕ, ◌^◌, ◌<◌, ◌≤◌, ◌==◌, ◌&&◌, ◌||◌, Bool, true, false, cond}
use Rattle.std.proofs.Common.{List}
use Rattle.std.proofs.Common.{[], ◌∷◌, ◌++◌, length, take, drop, get_or, Option, Some, None, Ok, refl, sym, ◌∙◌, ap}
use Rattle.std.proofs.Common.{inl, inr}
use Rattle.std.proofs.Common.{append_assoc, arith}
use Rattle.std.specs.Prelude.{IsTrue, nat_le, option_map, option_and_then}
use Rattle.std.specs.List.{list_all}
use Rattle.std.specs.Char.{is_ascii_digit}
use Rattle.std.specs.Fmt.{decimal}
use Rattle.std.specs.Str.{bytes_eq}
use Rattle.std.specs.Str.Parse.{AllDigits, digits_value}
use Rattle.std.proofs.lemmas.Bool.{cases_Bool, eqb-true, eqb-false, le-leb, leb-true, ne_eqb, or_parts}
use Rattle.std.proofs.lemmas.Fmt.{decimal_is_IsNumeral, decimal_digit, decimal_injective, decimal-digits_value}
use Rattle.std.proofs.lemmas.Fmt.{first_decimal}
use Rattle.std.proofs.lemmas.List.{take-append-drop}
use Rattle.std.proofs.lemmas.Slice.Eq.{bytes_eq-Decides}
use Rattle.std.proofs.lemmas.Str.Parse.{numerals_by_value, tells_digits}
use Rattle.std.proofs.Math.Seq.{take-append_seam, drop-append_seam}
use Rattle.element_table.specs.SymbolText.{is_symbol}
use Rattle.fixed_decimal.specs.Decimal.{leading_digits, whole_number}
use Rattle.fixed_decimal.specs.DecimalTexts.{number_of}
use Rattle.fixed_decimal.proofs.LeadingDigits.{leading}
use Rattle.fixed_decimal.proofs.NumbersInRange.{digits-whole_number, whole_number-digits}
use Rattle.written_items.specs.declared.item.Item.{Item}
use Rattle.written_items.specs.Items.{count_text, item_text, opening_bracket, closing_bracket}
use Rattle.written_items.specs.WrittenItems.{WrittenItem, begins, written_text}
use Rattle.written_items.specs.LeadingItems.{leading_item}
use Rattle.written_items.proofs.ByteKinds.{numeral-digits, take_while-run}
use Rattle.written_items.proofs.LeadingItemLaws.{leading_item-written}
use Rattle.isotopologue_text.specs.Isotopologues.{isotope_text}
use Rattle.isotopologue_text.specs.ReadCounts.{behind, count_behind, leading_count, printed_count}

-- ---- what stands behind a word

pub behind-word : (word rest : List ℕ) → behind word (word ++ rest) ≡ Some rest
behind-word word rest =
    let front : take (length word) (word ++ rest) ≡ word = take-append_seam word rest in
    let is : bytes_eq (take (length word) (word ++ rest)) word ≡ true =
    (bytes_eq-Decides (take (length word) (word ++ rest)) word).1 front in
    rw (is, drop-append_seam word rest) refl

behind-tested : (word text rest : List ℕ) (b : Bool) → bytes_eq (take (length word) text) word ≡ b
    → (let o : Option (List ℕ) = cond b (Some (drop (length word) text)) None in o) ≡ Some rest → text ≡ word ++ rest
behind-tested word text rest true is e =
    let front : take (length word) text ≡ word = (bytes_eq-Decides (take (length word) text) word).0 is in
    let same : drop (length word) text ≡ rest = cc in
    sym (take-append-drop (length word) text) ∙ ap (λ (t : List ℕ). t ++ drop (length word) text) front
    ∙ ap (λ (t : List ℕ). word ++ t) same
behind-tested word text rest false is e = absurd (cc)

pub behind-spelled : (word text rest : List ℕ) → behind word text ≡ Some rest → text ≡ word ++ rest
behind-spelled word text rest e = behind-tested word text rest (bytes_eq (take (length word) text) word) refl e

pub behind-none : (word text : List ℕ) → ((rest : List ℕ) → text ≡ word ++ rest → ⊥) → behind word text ≡ None
behind-none word text other =
    elim (behind word text) as (λ o. behind word text ≡ o → o ≡ None) [
      | None ↦ λ is. refl
      | Some rest ↦ λ is. absurd (other rest (behind-spelled word text rest is))
    ] refl

pub behind-append : (a b text : List ℕ) → behind (a ++ b) text ≡ option_and_then (behind b) (behind a text)
behind-append [] b text = refl
behind-append (w ∷ a) b [] = refl
behind-append (w ∷ a) b (t ∷ text) =
    elim (t == w) as (λ e. (let o : Option (List ℕ) = cond (e && bytes_eq (take (length (a ++ b)) text) (a ++ b))
    (Some (drop (length (a ++ b)) text)) None in o)
    ≡ option_and_then (behind b) (cond (e && bytes_eq (take (length a) text) a) (Some (drop (length a) text)) None)) [
      | true ↦ behind-append a b text
      | false ↦ refl
    ]

-- ---- isotopes

-- an isotope as an item: it has a symbol, and a mass number
pub record IsIsotopeItem (item : Item) : Type 0 where
  pub symbol : IsTrue (is_symbol item.symbol)
  pub from : 0 < item.label
  pub to : item.label < 2 ^ 32

-- its text, from the front
pub isotope-parts : (item : Item) → 0 < item.label
    → item_text item ≡ opening_bracket ∷ ((decimal item.label ++ item.symbol) ++ closing_bracket ∷ [])
isotope-parts item from =
    let labelled : (item.label == 0) ≡ false = ne_eqb item.label 0 (λ none. omega arith) in
    rw labelled refl

-- what stands behind it, part by part
pub isotope_behind : (item : Item) (text : List ℕ) → 0 < item.label
    → behind (item_text item) text
    ≡ option_and_then (λ rest. option_and_then (behind (closing_bracket ∷ []))
    (option_and_then (behind item.symbol) (behind (decimal item.label) rest))) (behind (opening_bracket ∷ []) text)
isotope_behind item text from =
    ap (λ (word : List ℕ). behind word text) (isotope-parts item from)
    ∙ behind-append (opening_bracket ∷ []) ((decimal item.label ++ item.symbol) ++ closing_bracket ∷ []) text
    ∙ parts (behind (opening_bracket ∷ []) text)
  where
    parts : (o : Option (List ℕ))
        → option_and_then (behind ((decimal item.label ++ item.symbol) ++ closing_bracket ∷ [])) o
        ≡ option_and_then (λ rest. option_and_then (behind (closing_bracket ∷ []))
        (option_and_then (behind item.symbol) (behind (decimal item.label) rest))) o
    parts None = refl
    parts (Some rest) =
        behind-append (decimal item.label ++ item.symbol) (closing_bracket ∷ []) rest
        ∙ ap (option_and_then (behind (closing_bracket ∷ []))) (behind-append (decimal item.label) item.symbol rest)

-- the same as it is found part by part
module _ (item : Item) (text rest : List ℕ) (from : 0 < item.label)
    (bracket : behind (opening_bracket ∷ []) text ≡ Some rest) where
  pub stops-at_number : behind (decimal item.label) rest ≡ None → behind (item_text item) text ≡ None
  stops-at_number none = isotope_behind item text from ∙ rw (bracket, none) refl

  pub stops-at_symbol : (more : List ℕ) → behind (decimal item.label) rest ≡ Some more → behind item.symbol more ≡ None
      → behind (item_text item) text ≡ None
  stops-at_symbol more number none = isotope_behind item text from ∙ rw (bracket, number, none) refl

  pub goes-on : (more last : List ℕ) → behind (decimal item.label) rest ≡ Some more → behind item.symbol more
      ≡ Some last
      → behind (item_text item) text ≡ behind (closing_bracket ∷ []) last
  goes-on more last number symbol = isotope_behind item text from ∙ rw (bracket, number, symbol) refl

abbrev written : Item → WrittenItem
written item = record { symbol = item.symbol; digits = Some (decimal item.label) }

text-written : (item : Item) → 0 < item.label → item_text item ≡ written_text (written item)
text-written item from =
    isotope-parts item from
    ∙ ap (λ (t : List ℕ). opening_bracket ∷ t) (append_assoc (decimal item.label) item.symbol (closing_bracket ∷ []))

leading-isotope : (item : Item) (rest : List ℕ) → IsIsotopeItem item → leading_item (item_text item ++ rest)
    ≡ Ok (written item)
leading-isotope item rest is =
    let numeral = decimal_is_IsNumeral item.label (omega (arith, is.to)) in
    ap (λ (t : List ℕ). leading_item (t ++ rest)) (text-written item is.from)
    ∙ leading_item-written (written item) rest
    (record { symbol = is.symbol; digits = (numeral.0.0, numeral.0.1) })
    (λ none. absurd (let other : ◌≡◌ {A = Option (List ℕ)} (Some (decimal item.label)) None = none in cc))

same-parts : (a b : Item) → a.symbol ≡ b.symbol → a.label ≡ b.label → a ≡ b
same-parts a b p q = λ i. record { symbol = p i; label = q i }

-- texts that begin with isotopes begin with the same one
pub same-isotope : (a b : Item) (x y : List ℕ) → IsIsotopeItem a → IsIsotopeItem b → item_text a ++ x ≡ item_text b ++ y
    → a ≡ b
same-isotope a b x y is_a is_b same =
    let read : Ok (written a) ≡ Ok (written b) =
    sym (leading-isotope a x is_a) ∙ ap leading_item same ∙ leading-isotope b y is_b in
    let items : written a ≡ written b = cc in
    let digits : Some (decimal a.label) ≡ Some (decimal b.label) = ap (λ (w : WrittenItem). w.digits) items in
    let numbers : decimal a.label ≡ decimal b.label = cc in
    same-parts a b (ap (λ (w : WrittenItem). w.symbol) items)
    (decimal_injective a.label b.label (omega (arith, is_a.to)) (omega (arith, is_b.to)) numbers)

-- ---- counts

-- the number that is read of its digits
decimal-whole : (most n : ℕ) (digits : List ℕ) → digits ≡ decimal n → n ≤ most → n < 2 ^ 64
    → whole_number most digits ≡ Some n
decimal-whole most n digits is few small =
    let numeral = decimal_is_IsNumeral n small in
    let value : number_of (decimal n) ≡ n = numeral.1 in
    ap (whole_number most) is
    ∙ digits-whole_number most (decimal n) (numeral.0.0, numeral.0.1) (omega (arith, value))
    ∙ ap (λ (k : ℕ). Some k) value

-- no count begins with 0
no-zero : (n d : ℕ) (digits : List ℕ) → d ∷ digits ≡ decimal n → 2 ≤ n → n < 2 ^ 64 → (d == 48) ≡ false
no-zero n d digits is more small =
    ne_eqb d 48 (λ zero_digit. omega (arith, first_decimal n (omega arith) small, ap (λ t. get_or t 0 0) is))

-- the digits of a count above 1
printed-decimal : (most n : ℕ) (digits : List ℕ) → digits ≡ decimal n → 2 ≤ n → n ≤ most → n < 2 ^ 64
    → printed_count most digits ≡ Some n
printed-decimal most n [] is more few small =
    let some = (decimal_is_IsNumeral n small).0.0 in
    absurd (omega (arith, ap length is))
printed-decimal most n (d ∷ []) is more few small =
    let other : (d == 49) ≡ false = ne_eqb d 49 (λ one.
    let value : digits_value 10 (d ∷ []) ≡ n = ap (digits_value 10) is ∙ (decimal_is_IsNumeral n small).1 in
    let first : digits_value 10 (d ∷ []) ≡ 1 = ap (λ b. digits_value 10 (b ∷ [])) one in
    omega arith) in
    rw (no-zero n d [] is more small, other) (decimal-whole most n (d ∷ []) is few small)
printed-decimal most n (d ∷ e ∷ ds) is more few small =
    rw (no-zero n d (e ∷ ds) is more small) (decimal-whole most n (d ∷ e ∷ ds) is few small)

-- the digits that a text with a count begins with
digits-of-count : (n : ℕ) (rest : List ℕ) → n < 2 ^ 64 → begins is_ascii_digit rest ≡ false
    → leading_digits (count_text n ++ rest) ≡ count_text n
digits-of-count n rest small ends = take_while-run is_ascii_digit (count_text n) rest digits ends
  where
    digits : list_all is_ascii_digit (count_text n) ≡ true
    digits = elim (n == 1) as (λ b. list_all is_ascii_digit (cond b [] (decimal n)) ≡ true) [
      | true ↦ refl
      | false ↦ numeral-digits (decimal n) (decimal_is_IsNumeral n small).0.1
    ]

printed-count : (most n : ℕ) → 0 < n → n ≤ most → n < 2 ^ 64 → printed_count most (count_text n) ≡ Some n
printed-count most n some few small =
    elim (cases_Bool (n == 1)) [
      | inl one ↦
          let one_is : n ≡ 1 = eqb-true n 1 one in
          let room : nat_le 1 most ≡ true = le-leb 1 most (omega arith) in
          rw one (rw room (ap (λ (k : ℕ). Some k) (sym one_is)))
      | inr more ↦
          let not_one = eqb-false n 1 more in
          rw more (printed-decimal most n (decimal n) refl (omega arith) few small)
    ]

-- ---- an isotope with its count at the beginning of a text

pub leading_count-written : (item : Item) (n most : ℕ) (rest : List ℕ) → n ≤ most → n < 2 ^ 64
    → begins is_ascii_digit rest ≡ false → ((more : List ℕ) → rest ≡ item_text item ++ more → ⊥)
    → leading_count most item (isotope_text item n ++ rest) ≡ Some (n, rest)
unfolding leading_count
leading_count-written item n most rest few small ends other =
    elim (cases_Bool (n == 0)) [
      | inl none ↦
          let zero_is : n ≡ 0 = eqb-true n 0 none in
          rw none (rw (behind-none (item_text item) rest other, zero_is) refl)
      | inr some ↦
          let not_zero = eqb-false n 0 some in
          let here : behind (item_text item) ((item_text item ++ count_text n) ++ rest) ≡ Some (count_text n ++ rest) =
          ap (behind (item_text item)) (append_assoc (item_text item) (count_text n) rest)
          ∙ behind-word (item_text item) (count_text n ++ rest) in
          rw (some, here, digits-of-count n rest small ends, printed-count most n (omega arith) few small)
          (ap (λ (t : List ℕ). Some (n, t)) (drop-append_seam (count_text n) rest))
    ]

-- digits that are read spell their number
whole-spelled : (most n : ℕ) (digits : List ℕ) → most < 2 ^ 64 → whole_number most digits ≡ Some n
    → (get_or digits 0 0 ≡ 48 → length digits ≡ 1) → (n ≤ most) × (digits ≡ decimal n)
whole-spelled most n digits small read first =
    let is = whole_number-digits most digits n read in
    let value : n ≡ digits_value 10 digits = is.1 in (
      is.2,
      sym (ap decimal value
          ∙ decimal-digits_value (numerals_by_value (AllDigits 10) tells_digits) digits is.0.1 is.0.0 first
          (omega (arith, is.2))),
    )

-- a count whose digits these are, neither 0 nor 1
counted : (most n : ℕ) (digits : List ℕ) → (n ≤ most) × (digits ≡ decimal n) → (digits ≡ 48 ∷ [] → ⊥)
    → (digits ≡ 49 ∷ [] → ⊥) → (n ≤ most) × (0 < n) × (digits ≡ count_text n)
counted most n digits is no_zero no_one =
    let not_zero : n ≡ 0 → ⊥ = λ zero_is. no_zero (is.1 ∙ ap decimal zero_is ∙ decimal_digit 0 (omega arith)) in
    let not_one : n ≡ 1 → ⊥ = λ one_is. no_one (is.1 ∙ ap decimal one_is ∙ decimal_digit 1 (omega arith)) in (
      is.0,
      omega arith,
      rw (ne_eqb n 1 not_one) is.1,
    )

-- what is read is what is written
printed_count-spelled : (most n : ℕ) (digits : List ℕ) → most < 2 ^ 64 → printed_count most digits ≡ Some n
    → (n ≤ most) × (0 < n) × (digits ≡ count_text n)
printed_count-spelled most n [] small e =
    elim (cases_Bool (nat_le 1 most)) [
      | inl room ↦
          let both : Some 1 ≡ Some n = rw room at e in
          let one_is : 1 ≡ n = cc in
          let within = leb-true 1 most room in
          (omega arith, omega arith, rw (← one_is) refl)
      | inr full ↦
          let both : None ≡ Some n = rw full at e in
          absurd (cc)
    ]
printed_count-spelled most n (d ∷ []) small e =
    elim (cases_Bool ((d == 48) || (d == 49))) [
      | inl bad ↦
          let both : None ≡ Some n = rw bad at e in
          absurd (cc)
      | inr good ↦
          let read : whole_number most (d ∷ []) ≡ Some n = rw good at e in
          let tests = or_parts (d == 48) (d == 49) good in
          let no_zero = eqb-false d 48 tests.0 in
          let no_one = eqb-false d 49 tests.1 in
          counted most n (d ∷ []) (whole-spelled most n (d ∷ []) small read (λ first. refl))
          (λ is. no_zero (ap (λ t. get_or t 0 0) is)) (λ is. no_one (ap (λ t. get_or t 0 0) is))
    ]
printed_count-spelled most n (d ∷ c ∷ ds) small e =
    elim (cases_Bool (d == 48)) [
      | inl bad ↦
          let both : None ≡ Some n = rw bad at e in
          absurd (cc)
      | inr good ↦
          let read : whole_number most (d ∷ c ∷ ds) ≡ Some n = rw good at e in
          let no_zero = eqb-false d 48 good in
          counted most n (d ∷ c ∷ ds) (whole-spelled most n (d ∷ c ∷ ds) small read (λ first. absurd (no_zero first)))
          (λ is. let long = ap length is in omega arith) (λ is. let long = ap length is in omega arith)
    ]

spelled-behind : (item : Item) (most n : ℕ) (text rest more : List ℕ) → most < 2 ^ 64 → text ≡ item_text item ++ more
    → (o : Option ℕ) → printed_count most (leading_digits more) ≡ o
    → option_map {U = ℕ × List ℕ} (λ count. (count, drop (length (leading_digits more)) more)) o ≡ Some (n, rest)
    → (n ≤ most) × (text ≡ isotope_text item n ++ rest)
spelled-behind item most n text rest more small is None read e =
    absurd (let both : ◌≡◌ {A = Option (ℕ × List ℕ)} None (Some (n, rest)) = e in cc)
spelled-behind item most n text rest more small is (Some k) read e =
    let both : ◌≡◌ {A = Option (ℕ × List ℕ)} (Some (k, drop (length (leading_digits more)) more)) (Some (n, rest)) =
    e in
    let pair : ◌≡◌ {A = ℕ × List ℕ} (k, drop (length (leading_digits more)) more) (n, rest) = cc in
    let same : k ≡ n = ap (λ (p : ℕ × List ℕ). p.0) pair in
    let left : drop (length (leading_digits more)) more ≡ rest = ap (λ (p : ℕ × List ℕ). p.1) pair in
    let count = printed_count-spelled most n (leading_digits more) small (read ∙ ap (λ (c : ℕ). Some c) same) in
    let digits = leading more in
    let seam : drop (length (leading_digits more)) more ≡ digits.0 =
    ap (drop (length (leading_digits more))) digits.2 ∙ drop-append_seam (leading_digits more) digits.0 in
    let whole : more ≡ count_text n ++ rest =
    digits.2 ∙ ap (λ (t : List ℕ). leading_digits more ++ t) (sym seam ∙ left)
    ∙ ap (λ (t : List ℕ). t ++ rest) count.2 in
    let some : (n == 0) ≡ false = ne_eqb n 0 (λ none. omega (arith, count.1)) in (
      count.0,
      rw some (is ∙ ap (λ (t : List ℕ). item_text item ++ t) whole
          ∙ sym (append_assoc (item_text item) (count_text n) rest)),
    )

pub leading_count-spelled : (item : Item) (most n : ℕ) (text rest : List ℕ) → most < 2 ^ 64
    → leading_count most item text ≡ Some (n, rest) → (n ≤ most) × (text ≡ isotope_text item n ++ rest)
unfolding leading_count
leading_count-spelled item most n text rest small e =
    elim (behind (item_text item) text) as (λ o. behind (item_text item) text ≡ o → count_behind most text o
    ≡ Some (n, rest)
    → (n ≤ most) × (text ≡ isotope_text item n ++ rest)) [
      | None ↦ λ is e.
          let both : ◌≡◌ {A = Option (ℕ × List ℕ)} (Some (0, text)) (Some (n, rest)) = e in
          let pair : ◌≡◌ {A = ℕ × List ℕ} (0, text) (n, rest) = cc in
          let none : 0 ≡ n = ap (λ (p : ℕ × List ℕ). p.0) pair in
          (omega arith, rw (← none) (ap (λ (p : ℕ × List ℕ). p.1) pair))
      | Some more ↦ λ is e.
          spelled-behind item most n text rest more small (behind-spelled (item_text item) text more is)
          (printed_count most (leading_digits more)) refl e
    ] refl e
