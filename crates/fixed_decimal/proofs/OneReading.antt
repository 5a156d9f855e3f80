-- That `read_decimal` is an answer that a decimal text's reading allows, and the only one.
use Rattle.std.proofs.Common.{◌≡◌, ◌≢◌, ◌==◌, ℕ, ◌+◌, ◌-◌, ◌<◌, Bool, true, false, cond, not, nat_le, List, length}
use Rattle.std.proofs.Common.{get_or, drop}
use Rattle.std.proofs.Common.{Option, Some, None, Result, Ok, Err, refl, sym, ap, ◌∙◌, subst, arith}
use Rattle.std.specs.Prelude.{option_map, position}
use Rattle.std.specs.List.{position_or_len}
use Rattle.std.proofs.lemmas.Bool.{leb-true}
use Rattle.std.proofs.lemmas.Bool.Decides.{nat_tests}
use Rattle.std.proofs.lemmas.List.{get_or-drop, length-drop}
use Rattle.std.proofs.lemmas.List.Quantifiers.{position-Some}
use Rattle.std.proofs.lemmas.List.Sums.{fails_before_first, position_or_len_is}
use Rattle.reader_answers.specs.Answers.{or_fault, unless_fault}
use Rattle.reader_answers.proofs.BadPlaceLaws.{one-bad-place, bad-place-no-text}
use Rattle.fixed_decimal.specs.declared.DecimalFault.{DecimalFault}
use Rattle.fixed_decimal.specs.declared.DecimalFault.TheVariants as fault
use Rattle.fixed_decimal.specs.DecimalTexts.{DecimalReading, IsDecimal, IsFinePlace, ZerosBefore, units_of}
use Rattle.fixed_decimal.specs.Decimal.{decimal_fault, decimal_value, digit_count, fine_place, read_decimal}
use Rattle.fixed_decimal.proofs.PartsOfTexts.{FaultMeans, HasParts, fault_means, parts_of_decimal}
use Rattle.fixed_decimal.proofs.ReadTexts.{at_most-above, at_most-within}

-- the byte of a digit other than 0, as the fine place is looked for
abbrev is_other : ℕ → Bool
is_other digit = not (digit == 48)

zero_of : (digit : ℕ) → is_other digit ≡ false → digit ≡ 48
zero_of digit is = grind (arith, nat_tests)

not_zero_of : (digit : ℕ) → is_other digit ≡ true → digit ≢ 48
not_zero_of digit is = grind (arith, nat_tests)

other_of : (digit : ℕ) → digit ≢ 48 → is_other digit ≡ true
other_of digit differs = grind (arith, nat_tests)

-- that no digit of a list is other than 0, and which is the first
zeros_of : (digits : List ℕ) → position is_other digits ≡ None → (k : ℕ) → k < length digits → get_or digits k 0 ≡ 48
zeros_of digits none k within = zero_of _ (fails_before_first is_other digits k 0 (grind (arith, nat_tests)))

none_of : (digits : List ℕ) → ((k : ℕ) → k < length digits → get_or digits k 0 ≡ 48) → position is_other digits ≡ None
none_of digits zeros =
    let last : position_or_len is_other digits ≡ length digits =
    position_or_len_is is_other digits (length digits) 0 (omega arith) (λ k within. rw (zeros k within) refl)
    (λ past. absurd (omega arith)) in
    grind (arith, nat_tests)

first_of_zeros : (digits : List ℕ) (i : ℕ) → i < length digits → get_or digits i 0 ≢ 48
    → ((k : ℕ) → k < i → get_or digits k 0 ≡ 48)
    → position is_other digits ≡ Some i
first_of_zeros digits i within other zeros =
    let here : position_or_len is_other digits ≡ i =
    position_or_len_is is_other digits i 0 (omega arith) (λ k before. rw (zeros k before) refl) (λ _. other_of _ other)
    in
    grind (arith, nat_tests)

-- the digits behind the D-th decimal, as bytes of the text
behind_byte : (D n : ℕ) (text : List ℕ) (k : ℕ)
    → get_or (drop D (drop (n + 1) text)) k 0 ≡ get_or text (n + 1 + (D + k)) 0
behind_byte D n text k = get_or-drop D (drop (n + 1) text) k 0 ∙ get_or-drop (n + 1) text (D + k) 0

behind_size : (D n : ℕ) (text : List ℕ) → length (drop D (drop (n + 1) text)) ≡ length text - (n + 1) - D
behind_size D n text = length-drop D (drop (n + 1) text) ∙ ap (λ (m : ℕ). m - D) (length-drop (n + 1) text)

-- a byte of the text behind the D-th decimal, as a digit there
byte_behind : (D n : ℕ) (text : List ℕ) (p : ℕ) → n + D < p
    → get_or text p 0 ≡ get_or (drop D (drop (n + 1) text)) (p - (n + 1 + D)) 0
byte_behind D n text p behind =
    let place : n + 1 + (D + (p - (n + 1 + D))) ≡ p = omega arith in
    rw place at (sym (behind_byte D n text (p - (n + 1 + D))))

map_none : (f : ℕ → ℕ) (o : Option ℕ) → option_map f o ≡ None → o ≡ None
map_none f None is = refl
map_none f (Some x) is = cc

map_some : (f : ℕ → ℕ) (o : Option ℕ) (y : ℕ) → option_map f o ≡ Some y → (x : ℕ) × (o ≡ Some x) × (y ≡ f x)
map_some f None y is = cc
map_some f (Some x) y is = let same : Some (f x) ≡ Some y = is in (x, refl, cc)

-- no fine place: zeros to the end of the text
zeros_when_none : (D : ℕ) (whole text : List ℕ) → digit_count text ≡ length whole → fine_place D text ≡ None
    → ZerosBefore D whole text (length text)
unfolding fine_place
zeros_when_none D whole text count none p behind within =
    let digits = drop D (drop (digit_count text + 1) text) in
    byte_behind D (digit_count text) text p (omega (arith, count))
    ∙ zeros_of digits (map_none _ (position is_other digits) none) (p - (digit_count text + 1 + D))
    (omega (arith, behind_size D (digit_count text) text, count))

none_when_zeros : (D : ℕ) (whole text : List ℕ) → digit_count text ≡ length whole
    → ZerosBefore D whole text (length text) → fine_place D text ≡ None
unfolding fine_place
none_when_zeros D whole text count zeros =
    let digits = drop D (drop (digit_count text + 1) text) in
    ap (option_map _) (none_of digits (λ k within.
    behind_byte D (digit_count text) text k
    ∙ zeros (digit_count text + 1 + (D + k)) (omega (arith, count))
    (omega (arith, behind_size D (digit_count text) text))))

-- a fine place, found and unique
fine_when_some : (D : ℕ) (whole text : List ℕ) (place : ℕ) → digit_count text ≡ length whole
    → fine_place D text ≡ Some place → IsFinePlace D whole text place
unfolding fine_place
fine_when_some D whole text place count some =
    let n = digit_count text in
    let digits = drop D (drop (n + 1) text) in
    let found = map_some _ (position is_other digits) place some in
    let first = position-Some is_other digits found.0 0 found.1 in
    let here : place ≡ n + 1 + D + found.0 = found.2 in
    let size = behind_size D n text in
    record {
      behind = omega (arith, count, here);
      within = omega (arith, here, first.0, size);
      not_zero = λ is.
          not_zero_of (get_or digits found.0 0) first.1
          (behind_byte D n text found.0 ∙ ap (λ (p : ℕ). get_or text p 0) (omega (arith, here)) ∙ is);
      zeros = λ p behind before.
          byte_behind D n text p (omega (arith, count))
          ∙ zero_of _ (first.2 (p - (n + 1 + D)) (omega (arith, here, count)));
    }

some_when_fine : (D : ℕ) (whole text : List ℕ) (place : ℕ) → digit_count text ≡ length whole
    → IsFinePlace D whole text place → fine_place D text ≡ Some place
unfolding fine_place
some_when_fine D whole text place count fine =
    let n = digit_count text in
    let digits = drop D (drop (n + 1) text) in
    let i = place - (n + 1 + D) in
    let size = behind_size D n text in
    let behind : n + D < place = omega (arith, count, fine.behind) in
    let first : position is_other digits ≡ Some i =
    first_of_zeros digits i (omega (arith, size, behind, fine.within))
    (λ is. fine.not_zero (byte_behind D n text place behind ∙ is))
    (λ k before. behind_byte D n text k ∙ fine.zeros (n + 1 + (D + k)) (omega (arith, count)) (omega (arith, before)))
    in
    ap (option_map _) first ∙ ap Some (omega (arith, behind))

pub value_of_parts : (D : ℕ) (text whole fraction : List ℕ) → HasParts text whole fraction
    → decimal_value D text ≡ units_of D whole fraction
unfolding decimal_value
value_of_parts D text whole fraction parts = rw (parts.before, parts.behind) refl

le_of : (n m : ℕ) → nat_le n m ≡ false → m < n
le_of n m is = grind (arith, nat_tests)

-- the computed answer is allowed
pub allowed : (D limit : ℕ) (text : List ℕ) → DecimalReading D limit text (read_decimal D limit text)
unfolding read_decimal
allowed D limit text = by (decimal_fault text) (fine_place D text) (nat_le (decimal_value D text) limit) refl refl refl
  where
    by : (f g : Option ℕ) (b : Bool) → decimal_fault text ≡ f → fine_place D text ≡ g
        → nat_le (decimal_value D text) limit ≡ b
        → DecimalReading D limit text
        (unless_fault (option_map fault.NotDecimal f) (unless_fault (option_map fault.TooFine g)
        (or_fault fault.TooLarge (cond b (Some (decimal_value D text)) None))))
    by (Some place) g b bad fine le = subst (FaultMeans text) bad (fault_means text)
    by None (Some place) b bad fine le =
        let is : IsDecimal text = subst (FaultMeans text) bad (fault_means text) in
        let parts = parts_of_decimal is.0 is.1 text is.2 in
        (is.0, is.1, is.2, fine_when_some D is.0 text place parts.count fine)
    by None None true bad fine le =
        let is : IsDecimal text = subst (FaultMeans text) bad (fault_means text) in
        let parts = parts_of_decimal is.0 is.1 text is.2 in (
          is.0,
          is.1,
          is.2,
          zeros_when_none D is.0 text parts.count fine,
          value_of_parts D text is.0 is.1 parts,
          leb-true
              _ _ le,
        )
    by None None false bad fine le =
        let is : IsDecimal text = subst (FaultMeans text) bad (fault_means text) in
        let parts = parts_of_decimal is.0 is.1 text is.2 in
        let value = value_of_parts D text is.0 is.1 parts in
        (is.0, is.1, is.2, zeros_when_none D is.0 text parts.count fine, omega (arith, le_of _ _ le, value))

-- and it is the only one
pub only : (D limit : ℕ) (text : List ℕ) (answer : Result ℕ DecimalFault) → DecimalReading D limit text answer
    → answer ≡ read_decimal D limit text
unfolding read_decimal
only D limit text (Ok value) (whole, fraction, is, zeros, value_is, within) =
    let parts = parts_of_decimal whole fraction text is in
    let units = value_of_parts D text whole fraction parts in
    rw (
      parts.fault,
      none_when_zeros D whole text parts.count zeros,
      units,
      ← value_is,
      at_most-within limit value
          within,
    ) refl
only D limit text (Err (fault.NotDecimal place)) bad = by (decimal_fault text) refl (fault_means text)
  where
    by : (f : Option ℕ) → decimal_fault text ≡ f → FaultMeans text (decimal_fault text)
        → Err (fault.NotDecimal place) ≡ read_decimal D limit text
    by None is meant = absurd (bad-place-no-text IsDecimal text place bad (subst (FaultMeans text) is meant))
    by (Some other) is meant =
        rw (is, one-bad-place IsDecimal text place other bad (subst (FaultMeans text) is meant)) refl
only D limit text (Err (fault.TooFine place)) (whole, fraction, is, fine) =
    let parts = parts_of_decimal whole fraction text is in
    rw (parts.fault, some_when_fine D whole text place parts.count fine) refl
only D limit text (Err fault.TooLarge) (whole, fraction, is, zeros, above) =
    let parts = parts_of_decimal whole fraction text is in
    let units = value_of_parts D text whole fraction parts in
    rw (parts.fault, none_when_zeros D whole text parts.count zeros, units, at_most-above limit _ above) refl

-- so for an answer that is the computed one
pub allowed_answer : (D limit : ℕ) (text : List ℕ) (answer : Result ℕ DecimalFault) → answer ≡ read_decimal D limit text
    → DecimalReading D limit text answer
allowed_answer D limit text answer is = subst (DecimalReading D limit text) (sym is) (allowed D limit text)

pub only_answer : (D limit : ℕ) (text : List ℕ) (answer : Result ℕ DecimalFault) → answer ≡ read_decimal D limit text
    → (other : Result ℕ DecimalFault) → DecimalReading D limit text other → other ≡ answer
only_answer D limit text answer is other reading = only D limit text other reading ∙ sym is
