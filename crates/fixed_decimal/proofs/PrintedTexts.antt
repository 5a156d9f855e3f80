-- That printed texts are read back, and that each is the one plain text of its value.
use Rattle.std.proofs.Common.{◌≡◌, ℕ, ◌+◌, ◌-◌, ◌*◌, ◌/◌, ◌%◌, ◌^◌, ◌<◌, ◌≤◌, zero, suc, List, [], ◌∷◌, ◌++◌, length}
use Rattle.std.proofs.Common.{get_or, take, drop, None, Ok, refl, inl, inr, sym, ap, ◌∙◌, arith, pow-suc}
use Rattle.std.proofs.lemmas.Grind.{common_steps}
use Rattle.std.proofs.lemmas.List.{drop_all, take_all, append-nil, append_assoc, reverse-append}
use Rattle.std.proofs.lemmas.Bool.Decides.{nat_tests}
use Rattle.std.proofs.lemmas.Fmt.{decimal_step, decimal_digit, decimal_is_IsNumeral, first_decimal}
use Rattle.std.proofs.lemmas.Fmt.{decimal-digits_value}
use Rattle.std.proofs.lemmas.Str.Parse.{digit_from_value, numerals_by_value, tells_digits}
use Rattle.std.proofs.Math.Nat.{div-div-eq-div-mul, div-le_self}
use Rattle.std.specs.Char.{digit_value}
use Rattle.std.specs.Fmt.{decimal}
use Rattle.std.specs.Prelude.{reverse}
use Rattle.std.specs.Str.Parse.{AllDigits, digits_value_after}
use Rattle.fixed_decimal.specs.DecimalTexts.{decimal_text, last_digits, number_of, units_of, IsDecimalOf, IsDigits}
use Rattle.fixed_decimal.specs.DecimalTexts.{IsPlainDecimal}
use Rattle.fixed_decimal.specs.Decimal.{decimal_value, fine_place, read_decimal}
use Rattle.fixed_decimal.proofs.PartsOfTexts.{HasParts, parts_of}
use Rattle.fixed_decimal.proofs.OneReading.{value_of_parts}
use Rattle.fixed_decimal.proofs.ReadTexts.{at_most-within, digits_value_after-append, digits_value_after-ge}
use Rattle.fixed_decimal.proofs.ReadTexts.{digit_value-digit}

-- a number without its last k + 1 digits
pub div-pow-suc : (n k : ℕ) → n / 10 ^ suc k ≡ n / 10 ^ k / 10
div-pow-suc n k = rw (pow-suc 10 k) (sym (div-div-eq-div-mul n (10 ^ k) 10))

pub last_digits-more : (k n : ℕ) → last_digits (k + 1) n ≡ (48 + n / 10 ^ k % 10) ∷ last_digits k n
last_digits-more k n = let e : k + 1 ≡ suc k = omega arith in rw e refl

pub reverse-push : (xs : List ℕ) (x : ℕ) → reverse (xs ++ x ∷ []) ≡ x ∷ reverse xs
reverse-push xs x = reverse-append xs (x ∷ [])

-- how long the last digits are, and that they are digits
pub length-last_digits : (k n : ℕ) → length (last_digits k n) ≡ k
length-last_digits zero n = refl
length-last_digits (suc k) n = ap suc (length-last_digits k n)

digit_byte : (d : ℕ) → d < 10 → digit_value (48 + d) ≡ d
digit_byte d small = grind (arith, nat_tests)

pub all_digits-last_digits : (k n : ℕ) → AllDigits 10 (last_digits k n)
all_digits-last_digits zero n = tt
all_digits-last_digits (suc k) n =
    (rw (digit_byte (n / 10 ^ k % 10) (omega arith)) (omega arith), all_digits-last_digits k n)

-- behind the number without them the last digits spell the number
pub digits_value_after-last_digits : (k n : ℕ) → digits_value_after 10 (n / 10 ^ k) (last_digits k n) ≡ n
digits_value_after-last_digits zero n = grind (arith, common_steps)
digits_value_after-last_digits (suc k) n =
    let front : n / 10 ^ suc k * 10 + digit_value (48 + n / 10 ^ k % 10) ≡ n / 10 ^ k =
    rw (div-pow-suc n k, digit_byte (n / 10 ^ k % 10) (omega arith)) (omega arith) in
    ap (λ (m : ℕ). digits_value_after 10 m (last_digits k n)) front ∙ digits_value_after-last_digits k n

-- a digit moves from the number that is left to the text
pub move_digit : (rest : ℕ) (text : List ℕ) → 10 ≤ rest → rest < 2 ^ 64
    → decimal (rest / 10) ++ reverse (text ++ (48 + rest % 10) ∷ []) ≡ decimal rest ++ reverse text
move_digit rest text more small =
    rw (reverse-push text (48 + rest % 10), decimal_step rest more small)
    (sym (append_assoc (decimal (rest / 10)) ((48 + rest % 10) ∷ []) (reverse text)))

-- and the last one
pub move_last : (rest : ℕ) (text : List ℕ) → rest < 10
    → reverse (text ++ (48 + rest % 10) ∷ []) ≡ decimal rest ++ reverse text
move_last rest text small =
    let digit : rest % 10 ≡ rest = omega arith in
    rw (reverse-push text (48 + rest % 10), decimal_digit rest small, digit) refl

-- the number without one more digit, and that digit in front of those of the text
pub next_rest : (n k : ℕ) → n / 10 ^ k / 10 ≡ n / 10 ^ (k + 1)
next_rest n k = let e : k + 1 ≡ suc k = omega arith in rw e (sym (div-pow-suc n k))

pub next_digit : (n k : ℕ) (text front : List ℕ) → reverse text ≡ last_digits k n ++ front
    → reverse (text ++ (48 + n / 10 ^ k % 10) ∷ []) ≡ last_digits (k + 1) n ++ front
next_digit n k text front before =
    rw (reverse-push text (48 + n / 10 ^ k % 10), last_digits-more k n, before) refl

whole_small : (D n : ℕ) → n < 2 ^ 64 → n / 10 ^ D < 2 ^ 64
whole_small D n small = omega (arith, div-le_self n (10 ^ D))

pub parts_of_printed : (D n : ℕ) → 1 ≤ D → n < 2 ^ 64
    → HasParts (decimal_text D n) (decimal (n / 10 ^ D)) (last_digits D n)
unfolding decimal_text
parts_of_printed D n some small =
    parts_of (decimal (n / 10 ^ D)) (last_digits D n) (decimal_is_IsNumeral (n / 10 ^ D) (whole_small D n small)).0.1
    (all_digits-last_digits D n)
    (decimal_is_IsNumeral (n / 10 ^ D) (whole_small D n small)).0.0 (rw (length-last_digits D n) some)

-- digits and D more behind a point spell a number with all of them
units_of-exact : (D : ℕ) (whole fraction : List ℕ) → length fraction ≡ D
    → units_of D whole fraction ≡ digits_value_after 10 (number_of whole) fraction
units_of-exact D whole fraction exact =
    let none : D - length fraction ≡ 0 = omega arith in
    let front : take D fraction ≡ fraction = take_all D fraction (omega arith) in
    rw (none, front, append-nil fraction) (digits_value_after-append 0 whole fraction)

-- and has no digit that is too fine
pub fine_place-exact : (D : ℕ) (text whole fraction : List ℕ) → HasParts text whole fraction → length fraction ≡ D
    → fine_place D text ≡ None
unfolding fine_place
fine_place-exact D text whole fraction parts exact =
    let none : drop D fraction ≡ [] = drop_all D fraction (omega arith) in
    rw (parts.behind, none) refl

units_of-printed : (D n : ℕ) → n < 2 ^ 64 → units_of D (decimal (n / 10 ^ D)) (last_digits D n) ≡ n
units_of-printed D n small =
    let whole : number_of (decimal (n / 10 ^ D)) ≡ n / 10 ^ D =
    (decimal_is_IsNumeral (n / 10 ^ D) (whole_small D n small)).1 in
    units_of-exact D (decimal (n / 10 ^ D)) (last_digits D n) (length-last_digits D n)
    ∙ (ap (λ (m : ℕ). digits_value_after 10 m (last_digits D n)) whole ∙ digits_value_after-last_digits D n)

decimal_value-printed : (D n : ℕ) → 1 ≤ D → n < 2 ^ 64 → decimal_value D (decimal_text D n) ≡ n
decimal_value-printed D n some small =
    value_of_parts D (decimal_text D n) _ _ (parts_of_printed D n some small) ∙ units_of-printed D n small

-- the printed text of a number of units is read as that number
pub reads_back : (D limit n : ℕ) → n < 2 ^ 64 → 1 ≤ D → n ≤ limit → read_decimal D limit (decimal_text D n) ≡ Ok n
unfolding read_decimal
reads_back D limit n small some within =
    rw (
      (parts_of_printed D n some small).fault,
      fine_place-exact D (decimal_text D n) _ _
          (parts_of_printed D n some small) (length-last_digits D n),
      decimal_value-printed D n some small,
      at_most-within
          limit n within,
    )
    refl

decimal_zero : (m : ℕ) → m < 2 ^ 64 → get_or (decimal m) 0 0 ≡ 48 → decimal m ≡ 48 ∷ []
decimal_zero zero small first = decimal_digit 0 (omega arith)
decimal_zero (suc m) small first = absurd (omega (arith, first_decimal (suc m) (omega arith) small))

-- and is plain
pub printed_is_plain : (D n : ℕ) → n < 2 ^ 64 → 1 ≤ D → IsPlainDecimal D n (decimal_text D n)
unfolding decimal_text
printed_is_plain D n small some =
    let numeral = decimal_is_IsNumeral (n / 10 ^ D) (whole_small D n small) in
    record {
      whole = decimal (n / 10 ^ D);
      fraction = last_digits D n;
      parts = (numeral.0, inr (refl, (rw (length-last_digits D n) some, all_digits-last_digits D n)));
      value_is = sym (units_of-printed D n small);
      decimals = length-last_digits D n;
      leading_zero = decimal_zero (n / 10 ^ D) (whole_small D n small);
    }

-- a number that ends in digits has them as its last ones
pub ends_in : (m : ℕ) (digits : List ℕ) → AllDigits 10 digits → digits_value_after 10 m digits / 10 ^ length digits ≡ m
ends_in m [] all = grind (arith, common_steps)
ends_in m (c ∷ cs) all =
    rw (
      div-pow-suc (digits_value_after 10 (m * 10 + digit_value c) cs) (length cs),
      ends_in (m * 10 + digit_value c) cs
          all.1,
    )
    (omega (arith, all.0))

same_digit : (m c : ℕ) (cs : List ℕ) → digit_value c < 10 → (48 + (m * 10 + digit_value c) % 10) ∷ cs ≡ c ∷ cs
same_digit m c cs small =
    ap (λ (d : ℕ). d ∷ cs) (omega (arith, digit_value-digit c (digit_from_value c small)))

pub last_digits-ends : (m : ℕ) (digits : List ℕ) → AllDigits 10 digits
    → last_digits (length digits) (digits_value_after 10 m digits) ≡ digits
last_digits-ends m [] all = refl
last_digits-ends m (c ∷ cs) all =
    rw (ends_in (m * 10 + digit_value c) cs all.1, last_digits-ends (m * 10 + digit_value c) cs all.1)
    (same_digit m c cs all.0)

-- a decimal text with digits behind its point
with_point : (whole fraction text : List ℕ) → IsDecimalOf whole fraction text → 0 < length fraction
    → (text ≡ whole ++ 46 ∷ fraction) × IsDigits fraction
with_point whole fraction text (digits, inl (is, none)) some = absurd (omega (arith, ap length none))
with_point whole fraction text (digits, inr behind) some = behind

-- the printed text is the one plain text of its value
pub one_text : (D n : ℕ) (text : List ℕ) → n < 2 ^ 64 → 1 ≤ D → IsPlainDecimal D n text → text ≡ decimal_text D n
unfolding decimal_text
one_text D n text small some plain =
    let digits : IsDigits plain.whole = plain.parts.0 in
    let behind = with_point plain.whole plain.fraction text plain.parts (omega (arith, plain.decimals)) in
    let spelled : digits_value_after 10 (number_of plain.whole) plain.fraction ≡ n =
    sym (plain.value_is ∙ units_of-exact D plain.whole plain.fraction plain.decimals) in
    let whole : n / 10 ^ D ≡ number_of plain.whole =
    rw (← plain.decimals, ← spelled) (ends_in (number_of plain.whole) plain.fraction behind.1.1) in
    let fraction : last_digits D n ≡ plain.fraction =
    rw (← plain.decimals, ← spelled) (last_digits-ends (number_of plain.whole) plain.fraction behind.1.1) in
    let printed : decimal (number_of plain.whole) ≡ plain.whole =
    decimal-digits_value (numerals_by_value (AllDigits 10) tells_digits) plain.whole digits.1 digits.0
    (λ first. ap length (plain.leading_zero first))
    (omega (arith, spelled, small, digits_value_after-ge (number_of plain.whole) plain.fraction)) in
    rw (whole, fraction, printed) behind.0
