-- The symbols of rows, each once, in the order of their first rows.
use Rattle.std.proofs.Common.{◌≡◌, ℕ, Bool, true, false, not, List, [], ◌∷◌, ◌++◌, filter, if◌then◌else◌, codes, refl}
use Rattle.std.proofs.Common.{sym, ap, ◌∙◌, subst}
use Rattle.std.specs.List.{list_any}
use Rattle.std.specs.Str.{bytes_eq}
use Rattle.std.proofs.lemmas.Bool.{or_from, or_parts, not_from_false, not_from_true}
use Rattle.std.proofs.lemmas.Bool.Decides.{same_from_decides, Decides-like}
use Rattle.std.proofs.lemmas.List.{append-nil}
use Rattle.std.proofs.lemmas.List.Elements.{filter-append}
use Rattle.std.proofs.lemmas.Map.Views.{any-filter_same}
use Rattle.std.proofs.lemmas.Slice.Eq.{bytes_eq-Decides}
use Rattle.element_table.specs.TableRows.{Row, first_symbols, isotope_rows, is_electron}

-- `bytes_eq` is equality
pub same_bytes : (a b : List ℕ) → bytes_eq a b ≡ true → a ≡ b
same_bytes a b = (bytes_eq-Decides a b).0

pub bytes_eq-refl : (a : List ℕ) → bytes_eq a a ≡ true
bytes_eq-refl a = (bytes_eq-Decides a a).1 refl

pub bytes_eq-flip : (a b : List ℕ) → bytes_eq a b ≡ bytes_eq b a
bytes_eq-flip a b = same_from_decides _ _ (bytes_eq-Decides a b) (Decides-like _ sym sym (bytes_eq-Decides b a))

-- the tests of symbols that the definitions make
abbrev other_than : List ℕ → List ℕ → Bool
other_than symbol t = not (bytes_eq t symbol)

-- a symbol goes to the end, unless it is there
abbrev pub push_symbol : List ℕ → List (List ℕ) → List (List ℕ)
push_symbol s ss = if list_any (bytes_eq s) ss then ss else ss ++ s ∷ []

-- no symbol is found again behind itself
abbrev pub AreDistinct : List (List ℕ) → Type 0
AreDistinct [] = Unit {0}
AreDistinct (s ∷ ss) = (list_any (bytes_eq s) ss ≡ false) × AreDistinct ss

-- a test finds nothing new in what a filter keeps
any-filter_none : {X : Type 0} (test p : X → Bool) (xs : List X) → list_any test xs ≡ false
    → list_any test (filter p xs) ≡ false
any-filter_none test p [] none = refl
any-filter_none test p (x ∷ xs) none = by (p x) refl (any-filter_none test p xs (or_parts _ _ none).1)
  where
    by : (b : Bool) → p x ≡ b → list_any test (filter p xs) ≡ false → list_any test (filter p (x ∷ xs)) ≡ false
    by true kept rest = rw kept (or_from _ _ (or_parts _ _ none).0 rest)
    by false lost rest = rw lost rest

-- the filter that takes a symbol out loses it, and no other one
any-filter_gone : (s : List ℕ) (ss : List (List ℕ)) → list_any (bytes_eq s) (filter (other_than s) ss) ≡ false
any-filter_gone s ss =
    any-filter_same (bytes_eq s) (other_than s) false (λ t same. not_from_true _ (bytes_eq-flip t s ∙ same)) ss

any-filter_other : (s x : List ℕ) (ss : List (List ℕ)) → bytes_eq s x ≡ false
    → list_any (bytes_eq s) (filter (other_than x) ss) ≡ list_any (bytes_eq s) ss
any-filter_other s x ss other =
    any-filter_same (bytes_eq s) (other_than x) true
    (λ t same. not_from_false _ (subst (λ u. bytes_eq u x ≡ false) (same_bytes s t same) other)) ss

AreDistinct-filter : (p : List ℕ → Bool) (ss : List (List ℕ)) → AreDistinct ss → AreDistinct (filter p ss)
AreDistinct-filter p [] distinct = tt
AreDistinct-filter p (s ∷ ss) distinct = by (p s) refl (AreDistinct-filter p ss distinct.1)
  where
    by : (b : Bool) → p s ≡ b → AreDistinct (filter p ss) → AreDistinct (filter p (s ∷ ss))
    by true kept rest = rw kept (any-filter_none (bytes_eq s) p ss distinct.0, rest)
    by false lost rest = rw lost rest

pub AreDistinct-first_symbols : (rows : List Row) → AreDistinct (first_symbols rows)
AreDistinct-first_symbols [] = tt
AreDistinct-first_symbols (row ∷ rows) = (
  any-filter_gone row.symbol (first_symbols rows),
  AreDistinct-filter (other_than row.symbol) (first_symbols rows)
      (AreDistinct-first_symbols rows),
)

-- a symbol is among the first symbols where a row has it
pub any-first_symbols : (s : List ℕ) (rows : List Row)
    → list_any (bytes_eq s) (first_symbols rows) ≡ list_any (λ row. bytes_eq row.symbol s) rows
any-first_symbols s [] = refl
any-first_symbols s (row ∷ rows) = by (bytes_eq s row.symbol) refl (any-first_symbols s rows)
  where
    by : (b : Bool) → bytes_eq s row.symbol ≡ b
        → list_any (bytes_eq s) (first_symbols rows) ≡ list_any (λ row. bytes_eq row.symbol s) rows
        → list_any (bytes_eq s) (first_symbols (row ∷ rows)) ≡ list_any (λ row. bytes_eq row.symbol s) (row ∷ rows)
    by true same rest = rw (same, bytes_eq-flip row.symbol s, same) refl
    by false other rest =
        rw (other, bytes_eq-flip row.symbol s, other) (any-filter_other s row.symbol (first_symbols rows) other ∙ rest)

pub push_symbol-cons : (s x : List ℕ) (ss : List (List ℕ)) → bytes_eq s x ≡ false
    → push_symbol s (x ∷ ss) ≡ x ∷ push_symbol s ss
push_symbol-cons s x ss other = by (list_any (bytes_eq s) ss) refl
  where
    by : (b : Bool) → list_any (bytes_eq s) ss ≡ b → push_symbol s (x ∷ ss) ≡ x ∷ push_symbol s ss
    by true old = rw (other, old) refl
    by false new = rw (other, new) refl

-- the filter of a first symbol, with one more symbol
push_symbol-filter : (s x : List ℕ) (ss : List (List ℕ))
    → x ∷ filter (other_than x) (push_symbol s ss) ≡ push_symbol s (x ∷ filter (other_than x) ss)
push_symbol-filter s x ss = by (bytes_eq s x) refl (list_any (bytes_eq s) ss) refl
  where
    by : (b : Bool) → bytes_eq s x ≡ b → (c : Bool) → list_any (bytes_eq s) ss ≡ c
        → x ∷ filter (other_than x) (push_symbol s ss) ≡ push_symbol s (x ∷ filter (other_than x) ss)
    by true same true old = rw (old, same) refl
    by true same false new = rw (new, same, filter-append, same) (ap (λ l. x ∷ l) (append-nil _))
    by false other true old = rw (old, other, any-filter_other s x ss other, old) refl
    by false other false new = rw (new, other, any-filter_other s x ss other, new, filter-append, other) refl

-- the first symbols with one more row
pub first_symbols-push : (rows : List Row) (row : Row)
    → first_symbols (rows ++ row ∷ []) ≡ push_symbol row.symbol (first_symbols rows)
first_symbols-push [] row = refl
first_symbols-push (x ∷ rows) row =
    ap (λ ss. x.symbol ∷ filter (other_than x.symbol) ss) (first_symbols-push rows row)
    ∙ push_symbol-filter row.symbol x.symbol (first_symbols rows)

-- a symbol that isn't the electron's is among the elements' where a row has it
pub any-isotope_symbols : (s : List ℕ) (rows : List Row) → is_electron s ≡ false
    → list_any (bytes_eq s) (first_symbols (isotope_rows rows)) ≡ list_any (λ row. bytes_eq row.symbol s) rows
any-isotope_symbols s rows isotope =
    any-first_symbols s (isotope_rows rows)
    ∙ any-filter_same (λ (row : Row). bytes_eq row.symbol s) (λ row. not (is_electron row.symbol)) true
    (λ row same. not_from_false _ (rw (same_bytes row.symbol s same) isotope)) rows

-- and the electron's never is
pub any-electron_symbol : (rows : List Row)
    → list_any (bytes_eq (codes "e-")) (first_symbols (isotope_rows rows)) ≡ false
any-electron_symbol rows =
    any-first_symbols (codes "e-") (isotope_rows rows)
    ∙ any-filter_same (λ (row : Row). is_electron row.symbol) (λ row. not (is_electron row.symbol)) false
    (λ row same. not_from_true _ same) rows
