-- Which texts have a number up to a limit or in a range, and which number that is.
use Rattle.std.proofs.Common.{◌≡◌, ℕ, ◌<◌, ◌≤◌, Bool, true, false, cond, nat_le, nat_lt, length, ◌==◌, ◌||◌, List}
use Rattle.std.proofs.Common.{Option}
use Rattle.std.proofs.Common.{Some, None, Result, Ok, Err, IfSome, refl, sym, ap, subst, ◌∙◌, arith}
use Rattle.std.specs.Prelude.{◌↔◌, IsNone}
use Rattle.std.specs.Option.{option_and_then}
use Rattle.std.specs.Result.{result_ok}
use Rattle.std.proofs.lemmas.Bool.{leb-true}
use Rattle.std.proofs.lemmas.Bool.Decides.{nat_tests}
use Rattle.fixed_decimal.specs.declared.DecimalFault.{DecimalFault}
use Rattle.fixed_decimal.specs.Decimal.{at_least, at_most, decimal_within, digit_count, number_of, read_decimal}
use Rattle.fixed_decimal.specs.Decimal.{whole_number, whole_within}
use Rattle.fixed_decimal.specs.DecimalTexts.{DecimalReading, IsDigits}
use Rattle.fixed_decimal.proofs.OneReading.{allowed, only}
use Rattle.fixed_decimal.proofs.PartsOfTexts.{digit_count-all}
use Rattle.fixed_decimal.proofs.ReadTexts.{all_digits-whole, at_most-Some, at_most-within}

at_most-le : (limit m n : ℕ) → at_most limit m ≡ Some n → n ≤ limit
at_most-le limit m n is = by (nat_le m limit) refl
  where
    by : (b : Bool) → nat_le m limit ≡ b → n ≤ limit
    by true within =
        let same : Some m ≡ Some n = rw within at is in
        let number : m ≡ n = cc in
        omega (arith, leb-true m limit within)
    by false above =
        let none : None ≡ Some n = rw above at is in
        cc

-- a number of a text is that of its digits, within the limit
pub whole_number-digits : (limit : ℕ) (text : List ℕ) (n : ℕ) → whole_number limit text ≡ Some n
    → IsDigits text × (n ≡ number_of text) × (n ≤ limit)
unfolding whole_number
whole_number-digits limit text n is = by ((length text == 0) || nat_lt (digit_count text) (length text)) refl is
  where
    by : (b : Bool) → ((length text == 0) || nat_lt (digit_count text) (length text)) ≡ b
        → cond b None (at_most limit (number_of text)) ≡ Some n → IsDigits text × (n ≡ number_of text) × (n ≤ limit)
    by true test none = cc
    by false test value =
        let some : 0 < length text = grind (arith, nat_tests) in
        let all : length text ≤ digit_count text = grind (arith, nat_tests) in
        ((some, all_digits-whole text all), at_most-Some limit _ n (sym value), at_most-le limit _ n value)

-- and digits have their number, where it is within
pub digits-whole_number : (limit : ℕ) (text : List ℕ) → IsDigits text → number_of text ≤ limit
    → whole_number limit text ≡ Some (number_of text)
unfolding whole_number
digits-whole_number limit text digits within =
    let some : 0 < length text = digits.0 in
    let count : digit_count text ≡ length text = digit_count-all text digits.1 in
    let test : ((length text == 0) || nat_lt (digit_count text) (length text)) ≡ false = grind (arith, nat_tests) in
    ap (λ (b : Bool). cond b None (at_most limit (number_of text))) test ∙ at_most-within limit _ within

-- a value of a text is one that it is read as
ok_of : (r : Result ℕ DecimalFault) (n : ℕ) → result_ok r ≡ Some n → r ≡ Ok n
ok_of (Ok m) n is = cc
ok_of (Err f) n is = cc

-- a number that is at least a lower limit
at_least-ge : (low : ℕ) (o : Option ℕ) (n : ℕ) → option_and_then (at_least low) o ≡ Some n → (low ≤ n) × (o ≡ Some n)
at_least-ge low None n is = cc
at_least-ge low (Some m) n is = by (nat_le low m) refl
  where
    by : (b : Bool) → nat_le low m ≡ b → (low ≤ n) × (Some m ≡ Some n)
    by true within =
        let same : Some m ≡ Some n = rw within at is in
        let number : m ≡ n = cc in
        (omega (arith, leb-true low m within), same)
    by false below =
        let none : None ≡ Some n = rw below at is in
        cc

at_least-within : (low n : ℕ) → low ≤ n → at_least low n ≡ Some n
at_least-within low n within = grind (arith, nat_tests)

pub whole_within-digits : (low high : ℕ) (text : List ℕ) (n : ℕ) → whole_within low high text ≡ Some n
    → (low ≤ n) × IsDigits text × (n ≡ number_of text) × (n ≤ high)
whole_within-digits low high text n is =
    let least = at_least-ge low (whole_number high text) n is in
    let digits = whole_number-digits high text n least.1 in
    (least.0, digits.0, digits.1, digits.2)

pub digits-whole_within : (low high : ℕ) (text : List ℕ) → IsDigits text → low ≤ number_of text
    → number_of text ≤ high → whole_within low high text ≡ Some (number_of text)
digits-whole_within low high text digits least most =
    ap (option_and_then (at_least low)) (digits-whole_number high text digits most) ∙ at_least-within low _ least

pub decimal_within-reading : (D low high : ℕ) (text : List ℕ) (n : ℕ) → decimal_within D low high text ≡ Some n
    → (low ≤ n) × DecimalReading D high text (Ok n)
decimal_within-reading D low high text n is =
    let least = at_least-ge low (result_ok (read_decimal D high text)) n is in
    (least.0, subst (DecimalReading D high text) (ok_of _ n least.1) (allowed D high text))

pub reading-decimal_within : (D low high : ℕ) (text : List ℕ) (n : ℕ) → low ≤ n → DecimalReading D high text (Ok n)
    → decimal_within D low high text ≡ Some n
reading-decimal_within D low high text n least reading =
    ap (λ (r : Result ℕ DecimalFault). option_and_then (at_least low) (result_ok r))
    (sym (only D high text (Ok n) reading))
    ∙ at_least-within low n least

-- what a clause on a number that may be there says
pub IfSome-from : (o : Option ℕ) (P : ℕ → Type 0) → ((n : ℕ) → o ≡ Some n → P n) → IfSome o P
IfSome-from None P holds = tt
IfSome-from (Some n) P holds = holds n refl

-- there is none exactly where none is allowed
pub none-exactly : (o : Option ℕ) (Allowed : Type 0) → ((n : ℕ) → o ≡ Some n → Allowed)
    → (Allowed → (n : ℕ) × (o ≡ Some n)) → IsNone o ↔ ¬ Allowed
none-exactly None Allowed found all =
    ((λ none is. let some : None ≡ Some (all is).0 = (all is).1 in cc), (λ no. refl))
none-exactly (Some n) Allowed found all = ((λ none is. cc), (λ no. absurd (no (found n refl))))

-- what the clauses of an answer say that is the number of a text
pub whole_number-some : (limit : ℕ) (text : List ℕ) (o : Option ℕ) → o ≡ whole_number limit text
    → IfSome o (λ number. IsDigits text × (number ≡ number_of text) × (number ≤ limit))
whole_number-some limit text o is = IfSome-from o _ (λ n some. whole_number-digits limit text n (sym is ∙ some))

pub whole_number-none : (limit : ℕ) (text : List ℕ) (o : Option ℕ) → o ≡ whole_number limit text
    → IsNone o ↔ ¬ (IsDigits text × (number_of text ≤ limit))
whole_number-none limit text o is =
    none-exactly o _
    (λ n some. let its = whole_number-digits limit text n (sym is ∙ some) in (its.0, omega (arith, its.1, its.2)))
    (λ allowed. (number_of text, is ∙ digits-whole_number limit text allowed.0 allowed.1))

-- or its number in a range
pub whole_within-some : (low high : ℕ) (text : List ℕ) (o : Option ℕ) → o ≡ whole_within low high text
    → IfSome o (λ number. IsDigits text × (number ≡ number_of text))
whole_within-some low high text o is =
    IfSome-from o _ (λ n some. let its = whole_within-digits low high text n (sym is ∙ some) in (its.1, its.2))

pub whole_within-none : (low high : ℕ) (text : List ℕ) (o : Option ℕ) → o ≡ whole_within low high text
    → IsNone o ↔ ¬ (IsDigits text × (low ≤ number_of text) × (number_of text ≤ high))
whole_within-none low high text o is =
    none-exactly o _
    (λ n some.
    let its = whole_within-digits low high text n (sym is ∙ some) in
    (its.1, omega (arith, its.0, its.2), omega (arith, its.2, its.3)))
    (λ allowed. (number_of text, is ∙ digits-whole_within low high text allowed.0 allowed.1 allowed.2))

pub whole_within-range : (low high : ℕ) (text : List ℕ) (n : ℕ) → whole_within low high text ≡ Some n
    → (low ≤ n) × (n ≤ high)
whole_within-range low high text n is =
    let its = whole_within-digits low high text n is in
    (its.0, its.3)

pub decimal_within-none : (D low high : ℕ) (text : List ℕ) (o : Option ℕ) → o ≡ decimal_within D low high text
    → IsNone o ↔ ¬ ((units : ℕ) × (low ≤ units) × DecimalReading D high text (Ok units))
decimal_within-none D low high text o is =
    none-exactly o _
    (λ n some. let its = decimal_within-reading D low high text n (sym is ∙ some) in (n, its.0, its.1))
    (λ allowed. (allowed.0, is ∙ reading-decimal_within D low high text allowed.0 allowed.1 allowed.2))

pub decimal_within-range : (D low high : ℕ) (text : List ℕ) (n : ℕ) → decimal_within D low high text ≡ Some n
    → (low ≤ n) × (n ≤ high)
decimal_within-range D low high text n is =
    let its = decimal_within-reading D low high text n is in
    let (whole, fraction, parts, zeros, value, most) = its.1 in
    (its.0, most)
