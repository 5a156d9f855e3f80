-- The parts of decimal texts, and the places where other texts stop being one.
use Rattle.std.proofs.Common.{◌≡◌, ◌≢◌, ◌⊎◌, ℕ, ◌+◌, ◌<◌, Bool, true, false, ◌==◌, List, [], ◌∷◌, ◌++◌, length}
use Rattle.std.proofs.Common.{get_or, take}
use Rattle.std.proofs.Common.{Option, Some, None, inl, inr, refl, sym, ap, ◌∙◌, subst, arith}
use Rattle.std.proofs.lemmas.Bool.Decides.{nat_tests}
use Rattle.std.proofs.lemmas.List.{take_at, take_all, drop_at, drop_all, append-nil, append_assoc, get_or_at}
use Rattle.std.proofs.lemmas.List.{length_push, length-append}
use Rattle.std.specs.Prelude.{⊤}
use Rattle.std.specs.Char.{digit_value, is_ascii_digit}
use Rattle.std.specs.Str.Parse.{AllDigits}
use Rattle.reader_answers.specs.BadPlaces.{Begins, IsBadPlace}
use Rattle.fixed_decimal.specs.DecimalTexts.{IsDecimal, IsDecimalOf, IsDigits}
use Rattle.fixed_decimal.specs.Decimal.{decimal_fault, digit_count, fraction_digits, whole_digits}

pub is_digit-value : (c : ℕ) → digit_value c < 10 → is_ascii_digit c ≡ true
is_digit-value c small = grind (arith, nat_tests)

pub value-is_digit : (c : ℕ) → is_ascii_digit c ≡ true → digit_value c < 10
value-is_digit c is = grind (arith, nat_tests)

-- digits in front of a text count
pub digit_count-digits : (digits rest : List ℕ) → AllDigits 10 digits
    → digit_count (digits ++ rest) ≡ length digits + digit_count rest
digit_count-digits [] rest all = omega arith
digit_count-digits (c ∷ cs) rest all = rw (is_digit-value c all.0, digit_count-digits cs rest all.1) (omega arith)

pub digit_count-all : (digits : List ℕ) → AllDigits 10 digits → digit_count digits ≡ length digits
digit_count-all digits all = rw (append-nil digits) at (digit_count-digits digits [] all) ∙ omega arith

pub all_digits-append : (xs ys : List ℕ) → AllDigits 10 xs → AllDigits 10 ys → AllDigits 10 (xs ++ ys)
all_digits-append [] ys all more = more
all_digits-append (x ∷ xs) ys all more = (all.0, all_digits-append xs ys all.1 more)

-- the fault of a text by its count of digits
fault-front : (text : List ℕ) → digit_count text ≡ 0 → decimal_fault text ≡ Some 0
unfolding decimal_fault
fault-front text none = grind (arith, nat_tests)

fault-whole : (text : List ℕ) → 0 < digit_count text → digit_count text ≡ length text → decimal_fault text ≡ None
unfolding decimal_fault
fault-whole text some all = grind (arith, nat_tests)

fault-other : (text : List ℕ) → 0 < digit_count text → digit_count text < length text
    → get_or text (digit_count text) 0 ≢ 46 → decimal_fault text ≡ Some (digit_count text)
unfolding decimal_fault
fault-other text some more other = grind (arith, nat_tests)

-- a text whose digits end at a point, behind which all are digits
pub decimal_fault-none : (text : List ℕ) → 0 < digit_count text → digit_count text < length text
    → get_or text (digit_count text) 0 ≡ 46
    → digit_count (fraction_digits text) ≡ length (fraction_digits text) → 0 < length (fraction_digits text)
    → decimal_fault text ≡ None
unfolding decimal_fault
decimal_fault-none text some_whole more at_point all some_fraction = grind (arith, nat_tests)

-- behind which there are none, or another byte
fault-behind : (text : List ℕ) → 0 < digit_count text → digit_count text < length text
    → get_or text (digit_count text) 0 ≡ 46
    → (digit_count (fraction_digits text) ≡ 0) ⊎ (digit_count (fraction_digits text) < length (fraction_digits text))
    → decimal_fault text ≡ Some (digit_count text + 1 + digit_count (fraction_digits text))
unfolding decimal_fault
fault-behind text some more at_point (inl none) = grind (arith, nat_tests)
fault-behind text some more at_point (inr short) = grind (arith, nat_tests)

-- what the definitions see of a decimal text with these parts
pub record HasParts (text whole fraction : List ℕ) : Type 0 where
  pub count : digit_count text ≡ length whole
  pub before : whole_digits text ≡ whole
  pub behind : fraction_digits text ≡ fraction
  pub fault : decimal_fault text ≡ None

pub parts_of : (whole fraction : List ℕ) → AllDigits 10 whole → AllDigits 10 fraction → 0 < length whole
    → 0 < length fraction
    → HasParts (whole ++ 46 ∷ fraction) whole fraction
parts_of whole fraction w f some_whole some_fraction =
    let count : digit_count (whole ++ 46 ∷ fraction) ≡ length whole =
    digit_count-digits whole (46 ∷ fraction) w ∙ omega arith in
    let behind : fraction_digits (whole ++ 46 ∷ fraction) ≡ fraction =
    rw (count, ← append_assoc whole (46 ∷ []) fraction)
    (drop_at (whole ++ 46 ∷ []) fraction (length whole + 1) (length_push whole 46)) in
    record {
      count = count;
      before = rw count (take_at whole (46 ∷ fraction) (length whole) refl);
      behind = behind;
      fault = decimal_fault-none (whole ++ 46 ∷ fraction) (rw count some_whole)
          (rw count (omega (arith, length-append whole (46 ∷ fraction))))
          (rw count (get_or_at whole 46 fraction 0 (length whole) refl))
          (rw behind (digit_count-all fraction f)) (rw behind some_fraction);
    }

parts_of_whole : (whole : List ℕ) → IsDigits whole → HasParts whole whole []
parts_of_whole whole digits =
    let count : digit_count whole ≡ length whole = digit_count-all whole digits.1 in
    record {
      count = count;
      before = take_all (digit_count whole) whole (omega (arith, count));
      behind = drop_all (digit_count whole + 1) whole (omega (arith, count));
      fault = fault-whole whole (omega (arith, count, digits.0)) count;
    }

-- a decimal text has its parts, so they are the only ones
pub parts_of_decimal : (whole fraction text : List ℕ) → IsDecimalOf whole fraction text → HasParts text whole fraction
parts_of_decimal whole fraction text (digits, inl (is, none)) =
    subst (λ t. HasParts t whole fraction) (sym is)
    (subst (λ f. HasParts whole whole f) (sym none) (parts_of_whole whole digits))
parts_of_decimal whole fraction text (digits, inr (is, behind)) =
    subst (λ t. HasParts t whole fraction) (sym is) (parts_of whole fraction digits.1 behind.1 digits.0 behind.0)

-- a text with a fault is no decimal text
pub fault-no_decimal : (text : List ℕ) (place : ℕ) → decimal_fault text ≡ Some place → ¬ (IsDecimal text)
fault-no_decimal text place fault (whole, fraction, is) =
    let none : decimal_fault text ≡ None = (parts_of_decimal whole fraction text is).fault in
    cc

-- a text that doesn't begin with a digit
abbrev Stops : List ℕ → Type 0
Stops [] = ⊤
Stops (c ∷ cs) = is_ascii_digit c ≡ false

digit_count-stops : (rest : List ℕ) → Stops rest → digit_count rest ≡ 0
digit_count-stops [] stops = refl
digit_count-stops (c ∷ cs) stops = rw stops refl

-- the digits that a text begins with, and the rest
record Front (text : List ℕ) : Type 0 where
  digits : List ℕ
  rest : List ℕ
  is : text ≡ digits ++ rest
  all : AllDigits 10 digits
  stops : Stops rest

front_of : (text : List ℕ) → Front text
front_of [] = record { digits = []; rest = []; is = refl; all = tt; stops = tt }
front_of (c ∷ cs) = by (is_ascii_digit c) refl (front_of cs)
  where
    by : (b : Bool) → is_ascii_digit c ≡ b → Front cs → Front (c ∷ cs)
    by true digit f =
        record {
          digits = c ∷ f.digits;
          rest = f.rest;
          is = ap (λ (t : List ℕ). c ∷ t) f.is;
          all =
              (value-is_digit c digit, f.all);
          stops = f.stops;
        }
    by false other f = record { digits = []; rest = c ∷ cs; is = refl; all = tt; stops = other }

-- the place of bad text behind a front with which some decimal text begins, if that is the fault whatever stands behind
-- the byte there
bad_behind : (front rest : List ℕ) → Begins IsDecimal front → decimal_fault (front ++ rest) ≡ Some (length front)
    → ((c : ℕ) (cs more : List ℕ) → rest ≡ c ∷ cs → decimal_fault (front ++ c ∷ more) ≡ Some (length front))
    → IsBadPlace IsDecimal (front ++ rest) (length front)
bad_behind front rest begins fault fault_of =
    record {
      within = omega (arith, length-append front rest);
      before = subst (Begins IsDecimal) (sym (take_at front rest (length front) refl)) begins;
      at = at_byte rest fault_of;
      at_end = λ _. fault-no_decimal (front ++ rest) (length front) fault;
    }
  where
    at_byte : (rest : List ℕ)
        → ((c : ℕ) (cs more : List ℕ) → rest ≡ c ∷ cs → decimal_fault (front ++ c ∷ more) ≡ Some (length front))
        → length front < length (front ++ rest) → ¬ (Begins IsDecimal (take (length front + 1) (front ++ rest)))
    at_byte [] fault_of within begun = absurd (omega (arith, length-append front []))
    at_byte (c ∷ cs) fault_of within (more, is) =
        let taken : take (length front + 1) (front ++ c ∷ cs) ≡ front ++ c ∷ [] =
        rw (← append_assoc front (c ∷ []) cs) (take_at (front ++ c ∷ []) cs (length front + 1) (length_push front c)) in
        let text : take (length front + 1) (front ++ c ∷ cs) ++ more ≡ front ++ c ∷ more =
        ap (λ (t : List ℕ). t ++ more) taken ∙ append_assoc front (c ∷ []) more in
        fault-no_decimal (front ++ c ∷ more) (length front) (fault_of c cs more refl) (subst IsDecimal text is)

-- what the fault of a text says of it
abbrev pub FaultMeans : List ℕ → Option ℕ → Type 0
FaultMeans text None = IsDecimal text
FaultMeans text (Some place) = IsBadPlace IsDecimal text place

means : (text : List ℕ) (fault : Option ℕ) → decimal_fault text ≡ fault → FaultMeans text fault
    → FaultMeans text (decimal_fault text)
means text fault is meant = subst (FaultMeans text) (sym is) meant

no_digit : (rest : List ℕ) → Stops rest → IsBadPlace IsDecimal rest 0
no_digit rest stops =
    bad_behind [] rest (48 ∷ [], (48 ∷ [], [], ((omega arith, (omega arith, tt)), inl (refl, refl))))
    (fault-front rest (digit_count-stops rest stops))
    (λ c cs more is. fault-front (c ∷ more) (digit_count-stops (c ∷ more) (subst Stops is stops)))

-- digits, and then a byte that is neither a digit nor a point
other_fault : (digits : List ℕ) (c : ℕ) (cs : List ℕ) → IsDigits digits → is_ascii_digit c ≡ false → c ≢ 46
    → decimal_fault (digits ++ c ∷ cs) ≡ Some (length digits)
other_fault digits c cs some other no_point =
    let count : digit_count (digits ++ c ∷ cs) ≡ length digits =
    digit_count-digits digits (c ∷ cs) some.1 ∙ rw other (omega arith) in
    let byte : get_or (digits ++ c ∷ cs) (digit_count (digits ++ c ∷ cs)) 0 ≡ c =
    rw count (get_or_at digits c cs 0 (length digits) refl) in
    fault-other (digits ++ c ∷ cs) (omega (arith, count, some.0)) (omega (arith, count, length-append digits (c ∷ cs)))
    (λ is. no_point (sym byte ∙ is))
    ∙ ap Some count

other_byte : (digits : List ℕ) (c : ℕ) (cs : List ℕ) → IsDigits digits → is_ascii_digit c ≡ false → c ≢ 46
    → IsBadPlace IsDecimal (digits ++ c ∷ cs) (length digits)
other_byte digits c cs some other no_point =
    bad_behind digits (c ∷ cs) ([], (digits, [], (some, inl (append-nil digits, refl))))
    (other_fault digits c cs some other no_point)
    (λ d ds more is. let same : c ≡ d = ap (λ (t : List ℕ). get_or t 0 0) is in
    other_fault digits d more some (subst (λ x. is_ascii_digit x ≡ false) same other)
    (λ point. no_point (same ∙ point)))

-- digits, a point, and then no digit or digits with another byte behind them
record Behind (digits fraction rest : List ℕ) : Type 0 where
  count : digit_count ((digits ++ 46 ∷ fraction) ++ rest) ≡ length digits
  behind : fraction_digits ((digits ++ 46 ∷ fraction) ++ rest) ≡ fraction ++ rest
  size : length ((digits ++ 46 ∷ fraction) ++ rest) ≡ length digits + 1 + length fraction + length rest
  byte : get_or ((digits ++ 46 ∷ fraction) ++ rest) (length digits) 0 ≡ 46

behind_of : (digits fraction rest : List ℕ) → IsDigits digits → Behind digits fraction rest
behind_of digits fraction rest some =
    let text : (digits ++ 46 ∷ fraction) ++ rest ≡ digits ++ 46 ∷ (fraction ++ rest) =
    append_assoc digits (46 ∷ fraction) rest in
    let count : digit_count ((digits ++ 46 ∷ fraction) ++ rest) ≡ length digits =
    rw text (digit_count-digits digits (46 ∷ (fraction ++ rest)) some.1 ∙ omega arith) in
    record {
      count = count;
      behind = rw (count, text, ← append_assoc digits (46 ∷ []) (fraction ++ rest))
          (drop_at (digits ++ 46 ∷ []) (fraction ++ rest) (length digits + 1) (length_push digits 46));
      size = omega (arith, length-append (digits ++ 46 ∷ fraction) rest, length-append digits (46 ∷ fraction));
      byte = rw text (get_or_at digits 46 (fraction ++ rest) 0 (length digits) refl);
    }

behind_fault : (digits fraction rest : List ℕ) → IsDigits digits → AllDigits 10 fraction → Stops rest
    → (length fraction ≡ 0) ⊎ (0 < length rest)
    → decimal_fault ((digits ++ 46 ∷ fraction) ++ rest) ≡ Some (length (digits ++ 46 ∷ fraction))
behind_fault digits fraction rest some all stops short =
    let b : Behind digits fraction rest = behind_of digits fraction rest some in
    let stop : digit_count (fraction ++ rest) ≡ length fraction =
    digit_count-digits fraction rest all ∙ omega (arith, digit_count-stops rest stops) in
    let decimals : digit_count (fraction_digits ((digits ++ 46 ∷ fraction) ++ rest)) ≡ length fraction =
    rw b.behind stop in
    let size : length (fraction_digits ((digits ++ 46 ∷ fraction) ++ rest)) ≡ length fraction + length rest =
    rw b.behind (length-append fraction rest) in
    let place : length (digits ++ 46 ∷ fraction) ≡ length digits + 1 + length fraction =
    omega (arith, length-append digits (46 ∷ fraction)) in
    fault-behind ((digits ++ 46 ∷ fraction) ++ rest) (omega (arith, b.count, some.0)) (omega (arith, b.count, b.size))
    (rw b.count b.byte)
    (elim short [ inl none ↦ inl (decimals ∙ none) | inr more ↦ inr (omega (arith, decimals, size, more)) ])
    ∙ ap Some (omega (arith, b.count, decimals, place))

behind_point : (digits fraction rest : List ℕ) → IsDigits digits → AllDigits 10 fraction → Stops rest
    → (length fraction ≡ 0) ⊎ (0 < length rest)
    → IsBadPlace IsDecimal ((digits ++ 46 ∷ fraction) ++ rest) (length (digits ++ 46 ∷ fraction))
behind_point digits fraction rest some all stops short =
    bad_behind (digits ++ 46 ∷ fraction) rest (
      48 ∷ [],
      (
        digits,
        fraction ++ 48 ∷ [],
        (
          some,
          inr (
            append_assoc digits (46 ∷ fraction) (48 ∷ []),
            (omega (arith, length_push fraction 48), all_digits-append fraction (48 ∷ []) all (omega arith, tt)),
          ),
        ),
      ),
    )
    (behind_fault digits fraction rest some all stops short)
    (λ c cs more is. behind_fault digits fraction (c ∷ more) some all (subst Stops is stops) (inr (omega arith)))

-- the fault of a text says whether it is a decimal text, or else where it stops being one
pub fault_means : (text : List ℕ) → FaultMeans text (decimal_fault text)
fault_means text =
    let f : Front text = front_of text in
    subst (λ t. FaultMeans t (decimal_fault t)) (sym f.is) (by f.digits f.rest f.all f.stops)
  where
    fraction_by : (digits fraction rest : List ℕ) → IsDigits digits → AllDigits 10 fraction → Stops rest
        → FaultMeans ((digits ++ 46 ∷ fraction) ++ rest) (decimal_fault ((digits ++ 46 ∷ fraction) ++ rest))
    fraction_by digits [] rest some all stops =
        means _ _ (behind_fault digits [] rest some all stops (inl refl))
        (behind_point digits [] rest some all stops (inl refl))
    fraction_by digits (d ∷ ds) [] some all stops =
        let none = append-nil (digits ++ 46 ∷ d ∷ ds) in
        subst (λ t. FaultMeans t (decimal_fault t)) (sym none)
        (means _ _ (parts_of digits (d ∷ ds) some.1 all some.0 (omega arith)).fault
        (digits, d ∷ ds, (some, inr (refl, (omega arith, all)))))
    fraction_by digits (d ∷ ds) (c ∷ cs) some all stops =
        means _ _ (behind_fault digits (d ∷ ds) (c ∷ cs) some all stops (inr (omega arith)))
        (behind_point digits (d ∷ ds) (c ∷ cs) some all stops (inr (omega arith)))

    point_by : (digits cs : List ℕ) → IsDigits digits → Front cs
        → FaultMeans (digits ++ 46 ∷ cs) (decimal_fault (digits ++ 46 ∷ cs))
    point_by digits cs some f =
        let text : digits ++ 46 ∷ cs ≡ (digits ++ 46 ∷ f.digits) ++ f.rest =
        ap (λ (t : List ℕ). digits ++ 46 ∷ t) f.is ∙ sym (append_assoc digits (46 ∷ f.digits) f.rest) in
        subst (λ t. FaultMeans t (decimal_fault t)) (sym text) (fraction_by digits f.digits f.rest some f.all f.stops)

    byte_by : (b : Bool) (digits : List ℕ) (c : ℕ) (cs : List ℕ) → (c == 46) ≡ b → IsDigits digits
        → is_ascii_digit c ≡ false
        → FaultMeans (digits ++ c ∷ cs) (decimal_fault (digits ++ c ∷ cs))
    byte_by true digits c cs is some other =
        let point : c ≡ 46 = grind (arith, nat_tests) in
        subst (λ x. FaultMeans (digits ++ x ∷ cs) (decimal_fault (digits ++ x ∷ cs))) (sym point)
        (point_by digits cs some (front_of cs))
    byte_by false digits c cs is some other =
        let no_point : c ≢ 46 = grind (arith, nat_tests) in
        means _ _ (other_fault digits c cs some other no_point) (other_byte digits c cs some other no_point)

    by : (digits rest : List ℕ) → AllDigits 10 digits → Stops rest
        → FaultMeans (digits ++ rest) (decimal_fault (digits ++ rest))
    by [] rest all stops = means rest (Some 0) (fault-front rest (digit_count-stops rest stops)) (no_digit rest stops)
    by (d ∷ ds) [] all stops =
        subst (λ t. FaultMeans t (decimal_fault t)) (sym (append-nil (d ∷ ds)))
        (means _ _ (parts_of_whole (d ∷ ds) (omega arith, all)).fault
        (d ∷ ds, [], ((omega arith, all), inl (refl, refl))))
    by (d ∷ ds) (c ∷ cs) all stops = byte_by (c == 46) (d ∷ ds) c cs refl (omega arith, all) stops
