-- The one answer that `DecimalReading` allows, computed from the text; the layers above compute with it, and with
-- whole numbers and numbers of a range likewise.
use Rattle.std.specs.Prelude.{ℕ, ◌+◌, List, length, take, drop, slice_index, position, Option, Some, None, option_map}
use Rattle.std.specs.Prelude.{option_and_then, Result, not, ◌||◌, ◌++◌, ◌==◌, nat_lt, nat_le, if◌then◌else◌}
use Rattle.std.specs.Char.{is_ascii_digit}
use Rattle.std.specs.List.{prefix_len, take_while}
use Rattle.std.specs.Result.{result_ok}
use Rattle.reader_answers.specs.Answers.{or_fault, unless_fault}
pub use Rattle.fixed_decimal.specs.DecimalTexts.{zero_digit, point, number_of, first_decimals, last_digits}
pub use Rattle.fixed_decimal.specs.DecimalTexts.{IsPlainDecimal}
unfoldable pub use Rattle.fixed_decimal.specs.DecimalTexts.{decimal_text}
use Rattle.fixed_decimal.specs.declared.DecimalFault.{DecimalFault}
use Rattle.fixed_decimal.specs.declared.DecimalFault.TheVariants.{NotDecimal, TooFine, TooLarge}

-- how many digits a text begins with
abbrev pub digit_count : List ℕ → ℕ
digit_count text = prefix_len is_ascii_digit text

-- the digits that a text begins with
abbrev pub leading_digits : List ℕ → List ℕ
leading_digits text = take_while is_ascii_digit text

-- the digits before the point
abbrev pub whole_digits : List ℕ → List ℕ
whole_digits text = take (digit_count text) text

-- of a decimal text, the digits behind the point
abbrev pub fraction_digits : List ℕ → List ℕ
fraction_digits text = drop (digit_count text + 1) text

-- where the digits behind a point, which begin at the place `start`, stop being one or more digits
abbrev pub fraction_fault : ℕ → List ℕ → Option ℕ
fraction_fault start digits =
    let count = digit_count digits in
    if (count == 0) || nat_lt count (length digits) then Some (start + count) else None

-- where a text stops being a decimal text: the first byte at which none can go on, or the length
-- where it ends too early; `None` where it is one
unfoldable pub decimal_fault : List ℕ → Option ℕ
decimal_fault text =
    let count = digit_count text in
    if count == 0 then Some 0 else (
    if count == length text then None else (
    if slice_index text count == point then fraction_fault (count + 1) (fraction_digits text) else Some count))

-- of a decimal text, the place of the first digit behind the D-th decimal that is not 0
unfoldable pub fine_place : ℕ → List ℕ → Option ℕ
fine_place D text =
    option_map (λ place. digit_count text + 1 + D + place)
    (position (λ digit. not (digit == zero_digit)) (drop D (fraction_digits text)))

-- the value of a decimal text in units of 10^-D: the number that its digits before the point and its
-- first D digits behind it spell
unfoldable pub decimal_value : ℕ → List ℕ → ℕ
decimal_value D text = number_of (whole_digits text ++ first_decimals D (fraction_digits text))

-- a number where it is at most the limit
abbrev pub at_most : ℕ → ℕ → Option ℕ
at_most limit number = if nat_le number limit then Some number else None

-- what a text is read as in units of 10^-D up to a limit: its value, or else the first fault
unfoldable pub read_decimal : ℕ → ℕ → List ℕ → Result ℕ DecimalFault
read_decimal D limit text =
    unless_fault (option_map NotDecimal (decimal_fault text))
    (unless_fault (option_map TooFine (fine_place D text)) (or_fault TooLarge (at_most limit (decimal_value D text))))

-- the number of a text of one or more digits, where it is at most the limit
unfoldable pub whole_number : ℕ → List ℕ → Option ℕ
whole_number limit text =
    if (length text == 0) || nat_lt (digit_count text) (length text) then None else at_most limit (number_of text)

-- a number where it is at least this one
abbrev pub at_least : ℕ → ℕ → Option ℕ
at_least low number = if nat_le low number then Some number else None

-- the value in units of 10^-D of a text that is a decimal, fine enough and from low to high; `None` for each other text
abbrev pub decimal_within : ℕ → ℕ → ℕ → List ℕ → Option ℕ
decimal_within D low high text = option_and_then (at_least low) (result_ok (read_decimal D high text))

-- the number of a text of one or more digits, where it is from low to high; `None` for each other text
abbrev pub whole_within : ℕ → ℕ → List ℕ → Option ℕ
whole_within low high text = option_and_then (at_least low) (whole_number high text)
