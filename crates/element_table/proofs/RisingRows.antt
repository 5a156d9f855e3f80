-- The isotopes of rows by rising mass number.
use Rattle.std.proofs.Common.{◌≡◌, ◌+◌, ◌<◌, ◌≤◌, ◌==◌, ◌⊎◌, Bool, true, false, ◌||◌, List, [], ◌∷◌, ◌++◌, length, refl}
use Rattle.std.proofs.Common.{sym, ap, ◌∙◌, inl, inr, arith}
use Rattle.std.specs.List.{list_any}
use Rattle.std.proofs.Math.Bool.{or_assoc, or_comm}
use Rattle.std.proofs.lemmas.Bool.{cases_order, cases_lt, eqb-false, lt-ltb, le-ltb, or_parts}
use Rattle.sorted_lists.specs.SortedLists.{put_in_order}
use Rattle.element_table.specs.TableRows.{Row, is_lighter, isotope_of_row, rising_isotopes}
use Rattle.element_table.specs.declared.element.Isotope.{Isotope}

-- one more isotope among those by rising mass number
list_any-put : (p : Isotope → Bool) (i : Isotope) (xs : List Isotope)
    → list_any p (put_in_order is_lighter i xs) ≡ (p i || list_any p xs)
list_any-put p i [] = refl
list_any-put p i (x ∷ xs) = by (is_lighter i x) refl (list_any-put p i xs)
  where
    by : (b : Bool) → is_lighter i x ≡ b → list_any p (put_in_order is_lighter i xs) ≡ (p i || list_any p xs)
        → list_any p (put_in_order is_lighter i (x ∷ xs)) ≡ (p i || list_any p (x ∷ xs))
    by true below rest = rw below refl
    by false above rest =
        rw (above, rest) (sym (or_assoc (p x) (p i) (list_any p xs))
        ∙ ap (λ b. b || list_any p xs) (or_comm (p x) (p i)) ∙ or_assoc (p i) (p x) (list_any p xs))

length-put : (i : Isotope) (xs : List Isotope) → length (put_in_order is_lighter i xs) ≡ length xs + 1
length-put i [] = refl
length-put i (x ∷ xs) = by (is_lighter i x) refl (length-put i xs)
  where
    by : (b : Bool) → is_lighter i x ≡ b → length (put_in_order is_lighter i xs) ≡ length xs + 1
        → length (put_in_order is_lighter i (x ∷ xs)) ≡ length (x ∷ xs) + 1
    by true below rest = rw below (omega arith)
    by false above rest = rw above (omega (arith, rest))

pub list_any-rising : (p : Isotope → Bool) (rows : List Row)
    → list_any p (rising_isotopes rows) ≡ list_any (λ row. p (isotope_of_row row)) rows
list_any-rising p [] = refl
list_any-rising p (row ∷ rows) =
    list_any-put p (isotope_of_row row) (rising_isotopes rows)
    ∙ ap (λ b. p (isotope_of_row row) || b) (list_any-rising p rows)

pub length-rising : (rows : List Row) → length (rising_isotopes rows) ≡ length rows
length-rising [] = refl
length-rising (row ∷ rows) =
    omega (arith, length-put (isotope_of_row row) (rising_isotopes rows), length-rising rows)

-- two isotopes of different mass numbers come to the same places in either turn
put-swap : (i j : Isotope) (xs : List Isotope) → (i.number == j.number) ≡ false
    → put_in_order is_lighter i (put_in_order is_lighter j xs)
    ≡ put_in_order is_lighter j (put_in_order is_lighter i xs)
put-swap i j [] apart = by (cases_order i.number j.number)
  where
    by : (i.number ≡ j.number) ⊎ ((i.number < j.number) ⊎ (j.number < i.number))
        → put_in_order is_lighter i (j ∷ []) ≡ put_in_order is_lighter j (i ∷ [])
    by (inl same) = absurd (eqb-false i.number j.number apart same)
    by (inr (inl below)) = rw (lt-ltb i.number j.number below, le-ltb j.number i.number (omega arith)) refl
    by (inr (inr above)) = rw (lt-ltb j.number i.number above, le-ltb i.number j.number (omega arith)) refl
put-swap i j (x ∷ xs) apart =
    by (cases_order i.number j.number) (cases_lt i.number x.number) (cases_lt j.number x.number) (put-swap i j xs apart)
  where
    by : (i.number ≡ j.number) ⊎ ((i.number < j.number) ⊎ (j.number < i.number))
        → (i.number < x.number) ⊎ (x.number ≤ i.number) → (j.number < x.number) ⊎ (x.number ≤ j.number)
        → put_in_order is_lighter i (put_in_order is_lighter j xs)
        ≡ put_in_order is_lighter j (put_in_order is_lighter i xs)
        → put_in_order is_lighter i (put_in_order is_lighter j (x ∷ xs))
        ≡ put_in_order is_lighter j (put_in_order is_lighter i (x ∷ xs))
    by (inl same) _ _ rest = absurd (eqb-false i.number j.number apart same)
    by order (inr i_above) (inr j_above) rest =
        let below_i = le-ltb i.number x.number i_above in
        let below_j = le-ltb j.number x.number j_above in
        simp (below_i, below_j) (ap (λ l. x ∷ l) rest)
    by (inr (inl below)) (inl i_below) (inl j_below) rest =
        let first = lt-ltb i.number j.number below in
        let second = le-ltb j.number i.number (omega arith) in
        let before_i = lt-ltb i.number x.number i_below in
        let before_j = lt-ltb j.number x.number j_below in
        simp (first, second, before_i, before_j)
    by (inr (inr above)) (inl i_below) (inl j_below) rest =
        let first = lt-ltb j.number i.number above in
        let second = le-ltb i.number j.number (omega arith) in
        let before_i = lt-ltb i.number x.number i_below in
        let before_j = lt-ltb j.number x.number j_below in
        simp (first, second, before_i, before_j)
    by order (inl i_below) (inr j_above) rest =
        let second = le-ltb j.number i.number (omega arith) in
        let before_i = lt-ltb i.number x.number i_below in
        let before_j = le-ltb j.number x.number j_above in
        simp (second, before_i, before_j)
    by order (inr i_above) (inl j_below) rest =
        let second = le-ltb i.number j.number (omega arith) in
        let before_i = le-ltb i.number x.number i_above in
        let before_j = lt-ltb j.number x.number j_below in
        simp (second, before_i, before_j)

-- the isotopes of rows with one more row, whose mass number is new
pub rising_isotopes-push : (rows : List Row) (row : Row)
    → list_any (λ (other : Row). other.number == row.number) rows ≡ false
    → rising_isotopes (rows ++ row ∷ []) ≡ put_in_order is_lighter (isotope_of_row row) (rising_isotopes rows)
rising_isotopes-push [] row new = refl
rising_isotopes-push (first ∷ rows) row new =
    let parts =
    or_parts (first.number == row.number) (list_any (λ (other : Row). other.number == row.number) rows) new in
    ap (put_in_order is_lighter (isotope_of_row first)) (rising_isotopes-push rows row parts.1)
    ∙ put-swap (isotope_of_row first) (isotope_of_row row) (rising_isotopes rows) parts.0
