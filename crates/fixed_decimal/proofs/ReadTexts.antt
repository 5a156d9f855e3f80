-- What the readers of decimal texts need of digits and of the numbers that they spell.
use Rattle.std.proofs.Common.{◌≡◌, ℕ, ◌+◌, ◌-◌, ◌*◌, ◌^◌, ◌<◌, ◌≤◌, min, zero, suc, Bool, true, false, cond, List, []}
use Rattle.std.proofs.Common.{◌∷◌, ◌++◌, length, get_or, take, drop, replicate, Some, None, refl, sym, ◌∙◌, arith}
use Rattle.std.proofs.Common.{pow-suc}
use Rattle.std.proofs.lemmas.List.{at_drop_more, take_all, take_min}
use Rattle.std.proofs.lemmas.List.Sums.{take_while-cons}
use Rattle.std.proofs.lemmas.Bool.Decides.{nat_tests}
use Rattle.std.specs.Str.Parse.{AllDigits, digits_value_after}
use Rattle.std.specs.Char.{digit_value, is_ascii_digit}
use Rattle.std.specs.Int.{IsInRange}
use Rattle.fixed_decimal.specs.Decimal.{at_most, digit_count, first_decimals, number_of}

pub at_most-above : (limit n : ℕ) → limit < n → at_most limit n ≡ None
at_most-above limit n above = grind (arith, nat_tests)

pub at_most-within : (limit n : ℕ) → n ≤ limit → at_most limit n ≡ Some n
at_most-within limit n within = grind (arith, nat_tests)

-- where a number is above the limit, so is each greater one
pub at_most-grows : (limit m n : ℕ) → m ≤ n → at_most limit m ≡ None → at_most limit n ≡ None
at_most-grows limit m n le none = grind (arith, nat_tests)

-- a number only grows by the digits behind it
pub digits_value_after-ge : (n : ℕ) (digits : List ℕ) → n ≤ digits_value_after 10 n digits
digits_value_after-ge n [] = omega arith
digits_value_after-ge n (c ∷ cs) = omega (arith, digits_value_after-ge (n * 10 + digit_value c) cs)

pub digits_value_after-append : (n : ℕ) (xs ys : List ℕ)
    → digits_value_after 10 n (xs ++ ys) ≡ digits_value_after 10 (digits_value_after 10 n xs) ys
digits_value_after-append n [] ys = refl
digits_value_after-append n (x ∷ xs) ys = digits_value_after-append (n * 10 + digit_value x) xs ys

-- the value of a digit's byte
pub digit_value-digit : (c : ℕ) → IsInRange 48 57 c → digit_value c + 48 ≡ c
digit_value-digit c digit = grind (arith, nat_tests)

-- the digits from i on, where the one at i has been read
pub digits_value_after-drop : (n : ℕ) (digits : List ℕ) (i : ℕ) → i < length digits
    → digits_value_after 10 n (drop i digits)
    ≡ digits_value_after 10 (n * 10 + digit_value (get_or digits i 0)) (drop (i + 1) digits)
digits_value_after-drop n digits i within = at_drop_more (digits_value_after 10 n) digits i 0 within

-- a digit with which the value leaves the range of the limit
pub past_limit : (limit value n : ℕ) (digits : List ℕ) (i : ℕ) → limit < 2 ^ 64 → i < length digits
    → digits_value_after 10 value (drop i digits) ≡ n → 2 ^ 64 ≤ value * 10 + digit_value (get_or digits i 0)
    → at_most limit n ≡ None
past_limit limit value n digits i small within rest past =
    at_most-above limit n
    (omega (
      arith,
      digits_value_after-drop value digits i within,
      digits_value_after-ge
          (value * 10 + digit_value (get_or digits i 0)) (drop (i + 1) digits),
    ))

-- zeros behind a number
pub digits_value_after-zeros : (n k : ℕ) → digits_value_after 10 n (replicate k 48) ≡ n * 10 ^ k
digits_value_after-zeros n zero = omega arith
digits_value_after-zeros n (suc k) =
    let power : 10 ^ suc k ≡ 10 ^ k * 10 = pow-suc 10 k in
    let same : (n * 10 + 0) * 10 ^ k ≡ n * 10 ^ suc k = rw power (grind arith) in
    digits_value_after-zeros (n * 10 + 0) k ∙ same

cond_digits : (b : Bool) (c : ℕ) (digits : List ℕ) → is_ascii_digit c ≡ b → AllDigits 10 digits
    → AllDigits 10 (cond b (c ∷ digits) [])
cond_digits true c digits e all = (grind (arith, nat_tests), all)
cond_digits false c digits e all = tt

-- the digits that a text begins with are digits
pub all_digits-front : (text : List ℕ) → AllDigits 10 (take (digit_count text) text)
all_digits-front [] = tt
all_digits-front (c ∷ cs) =
    rw (take_while-cons is_ascii_digit c cs) (cond_digits (is_ascii_digit c) c _ refl (all_digits-front cs))

-- a text with as many digits in front as it is long
pub all_digits-whole : (text : List ℕ) → length text ≤ digit_count text → AllDigits 10 text
all_digits-whole text long =
    let whole : take (digit_count text) text ≡ text = take_all _ _ long in
    rw whole at (all_digits-front text)

-- digits in front of others
pub all_digits-take : (n : ℕ) (digits : List ℕ) → AllDigits 10 digits → AllDigits 10 (take n digits)
all_digits-take zero digits all = tt
all_digits-take (suc n) [] all = tt
all_digits-take (suc n) (c ∷ cs) all = (all.0, all_digits-take n cs all.1)

-- the number that three parts of a list of digits spell, the last of which is zeros
pub number_of-parts : (xs ys : List ℕ) (zeros : ℕ)
    → number_of (xs ++ (ys ++ replicate zeros 48)) ≡ digits_value_after 10 (digits_value_after 10 0 xs) ys * 10 ^ zeros
number_of-parts xs ys zeros =
    rw (
      digits_value_after-append 0 xs (ys ++ replicate zeros 48),
      digits_value_after-append
          (digits_value_after 10 0 xs) ys (replicate zeros 48),
    ) (digits_value_after-zeros _ zeros)

-- the digits in front spell no more than all of them
pub digits_value_after-front : (n : ℕ) (xs ys : List ℕ)
    → digits_value_after 10 n xs ≤ digits_value_after 10 n (xs ++ ys)
digits_value_after-front n xs ys = rw (digits_value_after-append n xs ys) (digits_value_after-ge _ ys)

-- a number within the limit is the number
pub at_most-Some : (limit n m : ℕ) → Some m ≡ at_most limit n → m ≡ n
at_most-Some limit n m e = grind (arith, nat_tests)

-- the digits that are kept of a fraction, and the zeros that fill it
pub kept_decimals : (D kept : ℕ) (digits : List ℕ) → kept ≡ min (length digits) D
    → first_decimals D digits ≡ take kept digits ++ replicate (D - kept) 48
kept_decimals D kept digits e =
    let least : kept ≡ min D (length digits) = omega arith in
    let zeros : D - length digits ≡ D - kept = omega arith in
    let front : take kept digits ≡ take D digits = rw least (take_min D digits) in
    rw (front, zeros)

-- in three steps: a number above the limit after the first
pub above_whole : (limit D : ℕ) (whole digits : List ℕ) → None ≡ at_most limit (number_of whole)
    → at_most limit (number_of (whole ++ first_decimals D digits)) ≡ None
above_whole limit D whole digits none =
    at_most-grows limit (number_of whole) _ (digits_value_after-front 0 whole (first_decimals D digits)) (sym none)

-- after the second
pub above_decimals : (limit D kept n : ℕ) (whole digits : List ℕ) → kept ≡ min (length digits) D → n ≡ number_of whole
    → None ≡ at_most limit (digits_value_after 10 n (take kept digits))
    → at_most limit (number_of (whole ++ first_decimals D digits)) ≡ None
above_decimals limit D kept n whole digits e is none =
    rw (kept_decimals D kept digits e, digits_value_after-append 0 whole (take kept digits ++ replicate (D - kept) 48))
    (at_most-grows limit _ _ (digits_value_after-front (number_of whole) (take kept digits) (replicate (D - kept) 48))
    (rw is at (sym none)))

-- and the number itself after the third
pub value_in_steps : (D kept n m : ℕ) (whole digits : List ℕ) → kept ≡ min (length digits) D → n ≡ number_of whole
    → m ≡ digits_value_after 10 n (take kept digits)
    → number_of (whole ++ first_decimals D digits) ≡ m * 10 ^ (D - kept)
value_in_steps D kept n m whole digits e first second =
    rw (kept_decimals D kept digits e, second, first) (number_of-parts whole (take kept digits) (D - kept))
