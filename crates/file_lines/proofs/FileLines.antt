-- The lines of bytes, the first one cut off.
use Rattle.std.proofs.Common.{◌≡◌, ℕ, ◌+◌, ◌<◌, ◌≤◌, Bool, false, List, [], ◌∷◌, length, take, drop, Some}
use Rattle.std.proofs.Common.{None, ◌==◌, refl, ◌∙◌, ap, arith}
use Rattle.std.specs.List.{slice_split, position, position_or_len, All}
use Rattle.std.specs.Str.Lines.{lines, lines_of_parts, strip_carriage_return}
use Rattle.std.proofs.lemmas.List.Sums.{fails_before_first}
use Rattle.std.proofs.lemmas.List.Splits.{slice_split_first, slice_split_none, length-slice_split}

-- a line feed
abbrev is_feed : ℕ → Bool
is_feed b = b == 10

-- the place of the first element that passes
found : (p : ℕ → Bool) (xs : List ℕ) (n : ℕ) → position p xs ≡ Some n
    → (position_or_len p xs < length xs) × (position_or_len p xs ≡ n)
found p xs n e = (grind arith, grind arith)

-- in front of other parts, a part is a line that ends
lines_of_parts-cons : (line : List ℕ) (parts : List (List ℕ)) → 0 < length parts
    → lines_of_parts (line ∷ parts) ≡ strip_carriage_return line ∷ lines_of_parts parts
lines_of_parts-cons line [] some = absurd (omega arith)
lines_of_parts-cons line (part ∷ parts) some = refl

-- the first line and those behind its line feed
pub lines-cut : (bytes : List ℕ) (n : ℕ) → position (λ b. b == 10) bytes ≡ Some n
    → lines bytes ≡ strip_carriage_return (take n bytes) ∷ lines (drop (n + 1) bytes)
lines-cut bytes n e =
    let f = found is_feed bytes n e in
    let split = slice_split_first is_feed bytes 0 f.0 in
    let some : 0 < length (slice_split is_feed (drop (n + 1) bytes)) =
    omega (arith, length-slice_split is_feed (drop (n + 1) bytes)) in
    ap lines_of_parts (split ∙ ap (λ k. take k bytes ∷ slice_split is_feed (drop (k + 1) bytes)) f.1)
    ∙ lines_of_parts-cons (take n bytes) (slice_split is_feed (drop (n + 1) bytes)) some

-- where no element passes, each fails
all_fail : (p : ℕ → Bool) (xs : List ℕ) → position p xs ≡ None → All (λ x. p x ≡ false) xs
all_fail p xs none k d within =
    let whole : length xs ≤ position_or_len p xs = grind arith in
    fails_before_first p xs k d (omega arith)

-- a list that is not empty is one line where it is one part
one_part : (bytes : List ℕ) → 0 < length bytes → lines_of_parts (bytes ∷ []) ≡ bytes ∷ []
one_part [] some = absurd (omega arith)
one_part (byte ∷ bytes) some = grind arith

-- bytes without a line feed are one line
pub lines-one : (bytes : List ℕ) → position (λ b. b == 10) bytes ≡ None → 0 < length bytes → lines bytes ≡ bytes ∷ []
lines-one bytes none some =
    ap lines_of_parts (slice_split_none is_feed bytes (all_fail is_feed bytes none)) ∙ one_part bytes some
