-- Alphabet texts. A text is the list of its bytes, and a place in it is the number of bytes before it.
--     alphabet = entry entry ..          one or more
--     entry    = item range?
--     range    = digits "-" digits       one or more digits each
use Rattle.std.specs.Prelude.{ℕ, ◌+◌, ◌<◌, ◌≡◌, List, [], ◌∷◌, ◌++◌, length, drop}
use Rattle.std.specs.Str.Parse.{digits_value}
use Rattle.decompose.specs.declared.limits.Limit.{Limit}
use Rattle.decompose.specs.declared.limits.TheConstants.{MAX_COUNT}
use Rattle.fixed_decimal.specs.Decimal.{leading_digits}
use Rattle.fixed_decimal.specs.DecimalTexts.{IsDigits}
use Rattle.written_items.specs.WrittenRows.{WrittenPart, IsRowOf}

-- the byte `-`
abbrev pub hyphen : ℕ
hyphen = 45

-- the text is a range
pub record IsRange (text : List ℕ) : Type 0 where
  pub low : List ℕ
  pub high : List ℕ
  pub low_number : IsDigits low
  pub high_number : IsDigits high
  pub spelled : text ≡ low ++ hyphen ∷ high

-- what may stand behind an item: nothing, or a range
abbrev pub IsRangeTail : List ℕ → Type 0
IsRangeTail [] = Unit {0}
IsRangeTail (byte ∷ more) = IsRange (byte ∷ more)

-- the text is this row of one or more entries
pub record IsAlphabetRow (row : List WrittenPart) (text : List ℕ) : Type 0 where
  pub some : 0 < length row
  pub is : IsRowOf IsRangeTail row text

-- the text is one of the grammar
abbrev pub IsAlphabetText : List ℕ → Type 0
IsAlphabetText text = (row : List WrittenPart) × IsAlphabetRow row text

-- the digits of a range's upper limit, which stand behind those of the lower one and the hyphen
abbrev pub high_digits : List ℕ → List ℕ
high_digits range = drop (length (leading_digits range) + 1) range

-- the limits that are told behind an item: 0 to 10,000 where there is no range
abbrev pub limit_of_tail : List ℕ → Limit
limit_of_tail [] = record { low = 0; high = MAX_COUNT }
limit_of_tail (digit ∷ more) =
    record {
      low = digits_value 10 (leading_digits (digit ∷ more));
      high = digits_value 10 (high_digits (digit ∷ more));
    }
