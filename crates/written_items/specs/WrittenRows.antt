-- Rows of written items, none or more, each with a tail behind it. What a tail may be is a grammar of its own:
-- the digits of a count, or a range.
use Rattle.std.specs.Prelude.{ℕ, ◌≡◌, List, [], ◌∷◌, ◌++◌, All, IsTrue}
use Rattle.std.specs.List.{flat_map}
use Rattle.std.specs.Str.Parse.{digits_value}
use Rattle.written_items.specs.WrittenItems.{WrittenItem, IsWrittenItem, written_text, are_digits}

-- a written item and the bytes behind it
pub record WrittenPart : Type 0 where
  pub item : WrittenItem
  pub tail : List ℕ

abbrev pub part_text : WrittenPart → List ℕ
part_text part = written_text part.item ++ part.tail

-- the parts one after another
abbrev pub row_text : List WrittenPart → List ℕ
row_text row = flat_map part_text row

-- an item of the grammar with a tail of its grammar
pub record IsPart (IsTail : List ℕ → Type 0) (part : WrittenPart) : Type 0 where
  pub item : IsWrittenItem part.item
  pub tail : IsTail part.tail

-- the text is this row
pub record IsRowOf (IsTail : List ℕ → Type 0) (row : List WrittenPart) (text : List ℕ) : Type 0 where
  pub parts : All (IsPart IsTail) row
  pub spelled : text ≡ row_text row

-- The text is a row; it is one row at most, where tails have one reading.
pub record IsRow (IsTail : List ℕ → Type 0) (text : List ℕ) : Type 0 where
  pub row : List WrittenPart
  pub is : IsRowOf IsTail row text

-- the tails of rows with counts: digits, or none
abbrev pub IsCountTail : List ℕ → Type 0
IsCountTail tail = IsTrue (are_digits tail)

-- the count that a tail tells: 1 where it has no digit
abbrev pub count_of_tail : List ℕ → ℕ
count_of_tail [] = 1
count_of_tail (digit ∷ digits) = digits_value 10 (digit ∷ digits)
