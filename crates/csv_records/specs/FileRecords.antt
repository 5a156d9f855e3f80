-- The records of a CSV file: fields that commas part and double quotes may hold, as the crate `csv`
-- reads them, without the blanks at both ends of each field.
use Rattle.std.specs.Prelude.{◌≡◌, ℕ, ◌-◌, Bool, false, ◌||◌, ◌==◌, List, [], ◌∷◌, ◌++◌, map, take, drop, length}
use Rattle.std.specs.Prelude.{IsTrue, IsFalse}
use Rattle.std.specs.List.{All}
use Rattle.std.specs.List.{prefix_len, suffix_len}
use Rattle.std.specs.Cmp.Lexicographic.{pointwise}
use Rattle.std.specs.Str.{bytes_eq}
use Rattle.csv.specs.Reading.{default_config, records, strip_bom}

-- a space or a tab
abbrev pub is_blank : ℕ → Bool
is_blank byte = (byte == 32) || (byte == 9)

-- bytes without the blanks in front
abbrev pub trimmed_front : List ℕ → List ℕ
trimmed_front bytes = drop (prefix_len is_blank bytes) bytes

-- bytes without the blanks at their end
abbrev pub trimmed_end : List ℕ → List ℕ
trimmed_end bytes = take (length bytes - suffix_len is_blank bytes) bytes

-- a field without the blanks at both ends
unfoldable pub trimmed_field : List ℕ → List ℕ
trimmed_field field = trimmed_end (trimmed_front field)

-- a field is the trimmed one between blanks, and that neither begins nor ends with a blank
pub record IsTrimmed (field trimmed : List ℕ) : Type 0 where
  pub front : List ℕ
  pub end : List ℕ
  pub parts : field ≡ front ++ trimmed ++ end
  pub blank_front : All (λ byte. IsTrue (is_blank byte)) front
  pub blank_end : All (λ byte. IsTrue (is_blank byte)) end
  pub first : (byte : ℕ) (rest : List ℕ) → trimmed ≡ byte ∷ rest → IsFalse (is_blank byte)
  pub last : (byte : ℕ) (rest : List ℕ) → trimmed ≡ rest ++ byte ∷ [] → IsFalse (is_blank byte)

-- the records of a file, each the list of its fields: a byte order mark is dropped once, a carriage
-- return, a line feed or both end a record outside quotes, and a line without any byte is no record
unfoldable pub file_records : List ℕ → List (List (List ℕ))
file_records bytes = map (map trimmed_field) (records default_config (strip_bom bytes))

-- the first record is exactly these fields; false where there is no record
abbrev pub has_header : List (List ℕ) → List (List (List ℕ)) → Bool
has_header names [] = false
has_header names (first ∷ records) = pointwise bytes_eq first names
