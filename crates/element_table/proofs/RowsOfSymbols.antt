-- The rows of one symbol, and those of isotopes, with one more row.
use Rattle.std.proofs.Common.{◌≡◌, ℕ, Bool, true, false, not, List, [], ◌∷◌, ◌++◌, refl, sym, ap, ◌∙◌, subst}
use Rattle.std.proofs.Common.{true≢false}
use Rattle.std.specs.List.{list_any}
use Rattle.std.specs.Str.{bytes_eq}
use Rattle.std.proofs.lemmas.Bool.{or_parts}
use Rattle.std.proofs.lemmas.List.{append-nil}
use Rattle.std.proofs.lemmas.List.Elements.{filter-append}
use Rattle.element_table.specs.TableRows.{Row, rows_of, isotope_rows, is_electron}
use Rattle.element_table.proofs.FirstSymbols.{same_bytes}

-- the rows of a symbol with one more row
pub rows_of-push_same : (s : List ℕ) (rows : List Row) (row : Row) → bytes_eq row.symbol s ≡ true
    → rows_of s (rows ++ row ∷ []) ≡ rows_of s rows ++ row ∷ []
rows_of-push_same s rows row same = filter-append (λ (row : Row). bytes_eq row.symbol s) rows (row ∷ []) ∙ rw same refl

pub rows_of-push_other : (s : List ℕ) (rows : List Row) (row : Row) → bytes_eq row.symbol s ≡ false
    → rows_of s (rows ++ row ∷ []) ≡ rows_of s rows
rows_of-push_other s rows row other =
    filter-append (λ (row : Row). bytes_eq row.symbol s) rows (row ∷ []) ∙ rw other (append-nil _)

pub isotope_rows-push : (rows : List Row) (row : Row) → is_electron row.symbol ≡ false
    → isotope_rows (rows ++ row ∷ []) ≡ isotope_rows rows ++ row ∷ []
isotope_rows-push rows row isotope =
    filter-append (λ (row : Row). not (is_electron row.symbol)) rows (row ∷ []) ∙ rw isotope refl

pub isotope_rows-push_electron : (rows : List Row) (row : Row) → is_electron row.symbol ≡ true
    → isotope_rows (rows ++ row ∷ []) ≡ isotope_rows rows
isotope_rows-push_electron rows row electron =
    filter-append (λ (row : Row). not (is_electron row.symbol)) rows (row ∷ []) ∙ rw electron (append-nil _)

-- whether rows of a symbol stand among rows
pub rows_of-none : (s : List ℕ) (rows : List Row) → list_any (λ row. bytes_eq row.symbol s) rows ≡ false
    → rows_of s rows ≡ []
rows_of-none s [] none = refl
rows_of-none s (x ∷ rows) none =
    let parts = or_parts (bytes_eq x.symbol s) (list_any (λ (row : Row). bytes_eq row.symbol s) rows) none in
    rw parts.0 (rows_of-none s rows parts.1)

-- the first row of a symbol is there
pub rows_of-some : (s : List ℕ) (rows : List Row) → list_any (λ row. bytes_eq row.symbol s) rows ≡ true
    → (row : Row) × (others : List Row) × (rows_of s rows ≡ row ∷ others)
rows_of-some s [] some = absurd (true≢false (sym some))
rows_of-some s (x ∷ rows) some = by (bytes_eq x.symbol s) refl (λ rest. rows_of-some s rows rest)
  where
    by : (b : Bool) → bytes_eq x.symbol s ≡ b
        → (list_any (λ (row : Row). bytes_eq row.symbol s) rows
        ≡ true → (row : Row) × (others : List Row) × (rows_of s rows ≡ row ∷ others))
        → (row : Row) × (others : List Row) × (rows_of s (x ∷ rows) ≡ row ∷ others)
    by true same rest = (x, rows_of s rows, rw same refl)
    by false other rest = rw other (rest (rw other at some))

-- a row of the electron has the numbers of the electron
pub record IsRow (row : Row) : Type 0 where
  pub electron_number : is_electron row.symbol ≡ true → row.number ≡ 0
  pub electron_valence : is_electron row.symbol ≡ true → row.valence ≡ 0

abbrev pub AreRows : List Row → Type 0
AreRows [] = Unit {0}
AreRows (row ∷ rows) = IsRow row × AreRows rows

-- the first row of a symbol
pub first_row : (s : List ℕ) (rows : List Row) (first : Row) (others : List Row) → AreRows rows
    → rows_of s rows ≡ first ∷ others → IsRow first × (first.symbol ≡ s)
first_row s [] first others are there = cc
first_row s (x ∷ rows) first others are there =
    by (bytes_eq x.symbol s) refl (λ rest. first_row s rows first others are.1 rest)
  where
    by : (b : Bool) → bytes_eq x.symbol s ≡ b → (rows_of s rows ≡ first ∷ others → IsRow first × (first.symbol ≡ s))
        → IsRow first × (first.symbol ≡ s)
    by true same rest =
        let cons : x ∷ rows_of s rows ≡ first ∷ others = rw same at there in
        let is : x ≡ first = cc in
        (subst IsRow is are.0, ap (λ (row : Row). row.symbol) (sym is) ∙ same_bytes x.symbol s same)
    by false other rest = rest (rw other at there)
