-- The row of a text, computed part by part: the one answer that IsRowOf and the place of bad text allow, whose
-- reader of tails answers a tail or its place of bad text. Proofs use it, and definitions of readers above.
use Rattle.std.specs.Prelude.{ℕ, zero, suc, ◌+◌, ◌-◌, List, [], ◌∷◌, length, drop, Result, Ok, Err}
use Rattle.written_items.specs.WrittenItems.{WrittenItem, written_text}
use Rattle.written_items.specs.WrittenRows.{WrittenPart, part_text}
use Rattle.fixed_decimal.specs.Decimal.{leading_digits}
use Rattle.written_items.specs.LeadingItems.{leading_item}

-- what reads a tail at the beginning of a text
abbrev pub TailReader : Type 0
TailReader = List ℕ → Result (List ℕ) ℕ

-- counts have tails of as many digits as follow
abbrev pub count_tail : TailReader
count_tail text = Ok (leading_digits text)

-- an item and what is read as its tail
abbrev pub part_with : WrittenItem → Result (List ℕ) ℕ → Result WrittenPart ℕ
part_with item (Ok tail) = Ok (record { item = item; tail = tail })
part_with item (Err place) = Err (length (written_text item) + place)

abbrev pub part_behind : TailReader → List ℕ → Result WrittenItem ℕ → Result WrittenPart ℕ
part_behind tail_at text (Ok item) = part_with item (tail_at (drop (length (written_text item)) text))
part_behind tail_at text (Err place) = Err place

-- the part that a text begins with
abbrev pub leading_part : TailReader → List ℕ → Result WrittenPart ℕ
leading_part tail_at text = part_behind tail_at text (leading_item text)

-- a part before what is read behind it
abbrev pub row_with : WrittenPart → Result (List WrittenPart) ℕ → Result (List WrittenPart) ℕ
row_with part (Ok row) = Ok (part ∷ row)
row_with part (Err place) = Err (length (part_text part) + place)

abbrev pub row_behind : Result WrittenPart ℕ → (ℕ → Result (List WrittenPart) ℕ) → Result (List WrittenPart) ℕ
row_behind (Ok part) next = row_with part (next (length (part_text part) - 1))
row_behind (Err place) next = Err place

-- the row of a text without its first bytes
unfoldable pub row_after : TailReader → ℕ → List ℕ → Result (List WrittenPart) ℕ
row_after tail_at n [] = Ok []
row_after tail_at (suc n) (byte ∷ rest) = row_after tail_at n rest
row_after tail_at zero (byte ∷ rest) = row_behind (leading_part tail_at (byte ∷ rest)) (λ n. row_after tail_at n rest)

-- the row of a text, or the place at which no row can go on
abbrev pub row_of : TailReader → List ℕ → Result (List WrittenPart) ℕ
row_of tail_at text = row_after tail_at 0 text
