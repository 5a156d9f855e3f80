-- Decimal texts, their values in units of 10^-D, and what reading one may answer. A text is the list of its bytes,
-- and a place in it is the number of bytes before it.
use Rattle.std.specs.Prelude.{ℕ, ◌+◌, ◌-◌, ◌/◌, ◌%◌, ◌^◌, ◌<◌, ◌≤◌, ◌≡◌, ◌≢◌, ◌⊎◌, zero, suc}
use Rattle.std.specs.Prelude.{List, [], ◌∷◌, ◌++◌, length, take, replicate, slice_index, Result, Ok, Err}
use Rattle.std.specs.Fmt.{decimal}
use Rattle.std.specs.Str.Parse.{AllDigits, digits_value}
use Rattle.reader_answers.specs.BadPlaces.{IsBadPlace}
use Rattle.fixed_decimal.specs.declared.DecimalFault.{DecimalFault}
use Rattle.fixed_decimal.specs.declared.DecimalFault.TheVariants.{NotDecimal, TooFine, TooLarge}

-- the byte of the digit 0
abbrev pub zero_digit : ℕ
zero_digit = 48

-- the byte of the point
abbrev pub point : ℕ
point = 46

-- the number that a list of digits spells
abbrev pub number_of : List ℕ → ℕ
number_of digits = digits_value 10 digits

-- one or more digits
abbrev pub IsDigits : List ℕ → Type 0
IsDigits text = (0 < length text) × AllDigits 10 text

-- all the digits that the text begins with: no digit stands behind them
abbrev pub IsLeadingDigits : List ℕ → List ℕ → Type 0
IsLeadingDigits digits text = (rest : List ℕ) × AllDigits 10 digits × (text ≡ digits ++ rest)
    × ¬ (IsDigits (take 1 rest))

-- the digits before the point and those behind it spell this text: it is the first alone where there are none behind
abbrev pub IsDecimalOf : List ℕ → List ℕ → List ℕ → Type 0
IsDecimalOf whole fraction text =
    IsDigits whole × (((text ≡ whole) × (fraction ≡ [])) ⊎ ((text ≡ whole ++ point ∷ fraction) × IsDigits fraction))

-- a decimal text: one or more digits, and then nothing, or a point and one or more digits
abbrev pub IsDecimal : List ℕ → Type 0
IsDecimal text = (whole : List ℕ) × (fraction : List ℕ) × IsDecimalOf whole fraction text

-- the first D digits, filled with zeros to D
abbrev pub first_decimals : ℕ → List ℕ → List ℕ
first_decimals D digits = take D digits ++ replicate (D - length digits) zero_digit

-- the units of 10^-D of a decimal text: the number that its digits before the point and its first D digits behind it
-- spell
abbrev pub units_of : ℕ → List ℕ → List ℕ → ℕ
units_of D whole fraction = number_of (whole ++ first_decimals D fraction)

-- in a text with these digits before its point, each digit behind the D-th decimal and before the place is 0
abbrev pub ZerosBefore : ℕ → List ℕ → List ℕ → ℕ → Type 0
ZerosBefore D whole text place = (p : ℕ) → length whole + D < p → p < place → slice_index text p ≡ zero_digit

-- in a text with these digits before its point, the place is that of the first digit behind the D-th decimal that is
-- not 0
pub record IsFinePlace (D : ℕ) (whole text : List ℕ) (place : ℕ) : Type 0 where
  pub behind : length whole + D < place
  pub within : place < length text
  pub not_zero : slice_index text place ≢ zero_digit
  pub zeros : ZerosBefore D whole text place

-- What reading a text in units of 10^-D up to a limit answers: the value of a decimal text with zeros alone behind the
-- D-th decimal; or the place where the text stops being a decimal text, the place of the first digit that is too fine,
-- or that the value is above the limit.
abbrev pub DecimalReading : ℕ → ℕ → List ℕ → Result ℕ DecimalFault → Type 0
DecimalReading D limit text (Ok value) = (whole : List ℕ) × (fraction : List ℕ) × IsDecimalOf whole fraction text
    × ZerosBefore D whole text (length text) × (value ≡ units_of D whole fraction) × (value ≤ limit)
DecimalReading D limit text (Err (NotDecimal place)) = IsBadPlace IsDecimal text place
DecimalReading D limit text (Err (TooFine place)) = (whole : List ℕ) × (fraction : List ℕ)
    × IsDecimalOf whole fraction text × IsFinePlace D whole text place
DecimalReading D limit text (Err TooLarge) = (whole : List ℕ) × (fraction : List ℕ) × IsDecimalOf whole fraction text
    × ZerosBefore D whole text (length text) × (limit < units_of D whole fraction)

-- the last `count` digits of a number
abbrev pub last_digits : ℕ → ℕ → List ℕ
last_digits zero number = []
last_digits (suc count) number = (zero_digit + number / 10 ^ count % 10) ∷ last_digits count number

-- the printed text of a number of units of 10^-D: the whole part, a point and D digits
unfoldable pub decimal_text : ℕ → ℕ → List ℕ
decimal_text D units = decimal (units / 10 ^ D) ++ point ∷ last_digits D units

-- a decimal text of this value with exactly D digits behind its point, and before it a 0 alone or digits that do not
-- begin with 0
pub record IsPlainDecimal (D value : ℕ) (text : List ℕ) : Type 0 where
  pub whole : List ℕ
  pub fraction : List ℕ
  pub parts : IsDecimalOf whole fraction text
  pub value_is : value ≡ units_of D whole fraction
  pub decimals : length fraction ≡ D
  pub leading_zero : slice_index whole 0 ≡ zero_digit → whole ≡ zero_digit ∷ []
