-- The fields of the rows that are kept, as the records' callers see them.
use Rattle.std.proofs.Common.{◌≡◌, ℕ, ◌<◌, List, [], ◌∷◌, length, get_or, map, Some, None, refl, sym, ap, ◌∙◌, arith}
use Rattle.std.proofs.lemmas.List.{get_or-map, length-map}
use Rattle.csv.specs.Records.{Row, field_at, fields_of}
use Rattle.csv.proofs.RecordFacts.{field-get, field-there}
use Rattle.csv_records.specs.FileRecords.{trimmed_field}

-- a row's fields, each without the blanks at both ends
abbrev pub trimmed_row : Row → List (List ℕ)
trimmed_row row = map trimmed_field (fields_of row)

pub trimmed-rows : (rows : List Row) (records : List (List (List ℕ))) → map fields_of rows ≡ records
    → map trimmed_row rows ≡ map (map trimmed_field) records
trimmed-rows rows records e = rw (← e) (map-of rows)
  where
    map-of : (rows : List Row) → map trimmed_row rows ≡ map (map trimmed_field) (map fields_of rows)
    map-of [] = refl
    map-of (row ∷ rows) = ap (λ (rest : List (List (List ℕ))). trimmed_row row ∷ rest) (map-of rows)

-- a record of the view is its row, trimmed
pub row_at : (view : List (List (List ℕ))) (rows : List Row) (i : ℕ) (row : Row)
    → map trimmed_row rows ≡ view → i < length view → row ≡ get_or rows i row → get_or view i [] ≡ trimmed_row row
row_at view rows i row same within there =
    let inside : i < length rows = omega (arith, length-map rows trimmed_row, ap length same) in
    rw (← same) (get_or-map trimmed_row rows i row [] inside ∙ ap trimmed_row (sym there))

-- a row has the field that a record of the view has
pub no_field : (fields : List (List ℕ)) (j : ℕ) → j < length (map trimmed_field fields) → None ≡ field_at fields j → ⊥
no_field fields j within none = field-there fields j (omega (arith, length-map fields trimmed_field)) (sym none)

pub field_of : (fields : List (List ℕ)) (j : ℕ) (field : List ℕ) → j < length (map trimmed_field fields)
    → Some field ≡ field_at fields j
    → trimmed_field field ≡ get_or (map trimmed_field fields) j []
field_of fields j field within some =
    let inside : j < length fields = omega (arith, length-map fields trimmed_field) in
    sym (get_or-map trimmed_field fields j [] [] inside ∙ ap trimmed_field (field-get fields j field (sym some)))
