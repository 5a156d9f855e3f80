-- What a row that has been read says of its numbers.
use Rattle.std.proofs.Common.{◌≡◌, ℕ, ◌*◌, ◌/◌, ◌^◌, ◌≤◌, option_map, Bool, true, false, nat_le, eqb, length, List, []}
use Rattle.std.proofs.Common.{◌∷◌, Option, Some, None, Result, Ok, Err, codes, refl, ◌∙◌, subst, arith, if◌then◌else◌}
use Rattle.std.specs.Option.{ok_or}
use Rattle.std.proofs.Math.Nat.{div-mul-le_self, mul-le-mul_right}
use Rattle.std.proofs.lemmas.Bool.{leb-true, ne_eqb, and_parts, and_left, and_right}
use Rattle.std.proofs.lemmas.Slice.Eq.{bytes_eq-Decides}
use Rattle.fixed_decimal.specs.Decimal.{decimal_within}
use Rattle.fixed_decimal.proofs.NumbersInRange.{decimal_within-range, whole_within-range}
use Rattle.reader_answers.specs.Answers.{or_fault, ◌>>=◌}
use Rattle.element_table.specs.Limits.{full_abundance}
use Rattle.element_table.specs.SymbolText.{is_capital, is_small, is_symbol}
use Rattle.element_table.specs.TableRows.{Row, is_electron}
use Rattle.element_table.specs.TableText.{Ranges, numbers_of, row_of, weight_within, electron_ranges, isotope_ranges}
use Rattle.element_table.specs.declared.fault.TableFault.{TableFault}
use Rattle.element_table.specs.declared.fault.TableFault.TheVariants as fault

-- a row has a symbol, and numbers in ranges
pub record IsRowWithin (ranges : Ranges) (symbol : List ℕ) (row : Row) : Type 0 where
  pub symbol_is : row.symbol ≡ symbol
  pub number_from : ranges.number_from ≤ row.number
  pub number_to : row.number ≤ ranges.number_to
  pub mass_from : ranges.mass_from ≤ row.mass
  pub mass_to : row.mass ≤ ranges.mass_to
  pub weight_to : row.weight ≤ ranges.weight_to
  pub valence_to : row.valence ≤ ranges.valence_to

-- a weight that has been read is within its limit
pub weight_within-range : (decimals limit : ℕ) (text : List ℕ) (w : ℕ) → weight_within decimals limit text ≡ Some w
    → w ≤ limit
weight_within-range decimals limit text w is =
    by (decimal_within decimals 0 (limit / (full_abundance / 10 ^ decimals)) text) refl is
  where
    by : (o : Option ℕ) → decimal_within decimals 0 (limit / (full_abundance / 10 ^ decimals)) text ≡ o
        → option_map (λ units. units * (full_abundance / 10 ^ decimals)) o ≡ Some w → w ≤ limit
    by None read none = cc
    by (Some n) read some =
        let within = (decimal_within-range _ _ _ _ n read).1 in
        let value : n * (full_abundance / 10 ^ decimals) ≡ w = cc in
        omega (
          arith,
          value,
          mul-le-mul_right (full_abundance / 10 ^ decimals) within,
          div-mul-le_self limit
              ((full_abundance / 10 ^ decimals)),
        )

-- the number that a step of a reading goes on with
read_on : {A : Type 0} (f : TableFault) (o : Option ℕ) (next : ℕ → Result A TableFault) (x : A)
    → (or_fault f o >>= next) ≡ Ok x → (n : ℕ) × (o ≡ Some n) × (next n ≡ Ok x)
read_on f None next x is = cc
read_on f (Some n) next x is = (n, refl, is)

ok_same : (x y : Row) → ◌≡◌ {A = Result Row TableFault} (Ok x) (Ok y) → x ≡ y
ok_same x y is = cc

pub numbers_of-within : (decimals record_number : ℕ) (ranges : Ranges) (symbol number mass abundance valence : List ℕ)
    (row : Row)
    → numbers_of decimals record_number ranges symbol number mass abundance valence ≡ Ok row
    → IsRowWithin ranges symbol row
unfolding numbers_of
numbers_of-within decimals record_number ranges symbol number mass abundance valence row is =
    let n = read_on _ _ _ row is in
    let m = read_on _ _ _ row n.2 in
    let w = read_on _ _ _ row m.2 in
    let v = read_on _ _ _ row w.2 in
    let same : record { symbol = symbol; number = n.0; mass = m.0; weight = w.0; valence = v.0 } ≡ row =
    ok_same _ _ v.2 in
    subst (IsRowWithin ranges symbol) same (record {
      symbol_is = refl;
      number_from = (whole_within-range _ _ number n.0 n.1).0;
      number_to = (whole_within-range _ _ number n.0 n.1).1;
      mass_from = (decimal_within-range _ _ _ mass m.0 m.1).0;
      mass_to = (decimal_within-range _ _ _ mass m.0 m.1).1;
      weight_to = weight_within-range _ _ abundance w.0 w.1;
      valence_to = (whole_within-range _ _ valence v.0 v.1).1;
    })

module _ (decimals record_number : ℕ) (symbol number mass abundance valence : List ℕ) where
  pub row_of-electron : is_electron symbol ≡ true
      → row_of decimals record_number (symbol ∷ number ∷ mass ∷ abundance ∷ valence ∷ [])
      ≡ numbers_of decimals record_number electron_ranges symbol number mass abundance valence
  unfolding row_of
  row_of-electron electron = rw electron refl

  pub row_of-isotope : is_electron symbol ≡ false → is_symbol symbol ≡ true
      → row_of decimals record_number (symbol ∷ number ∷ mass ∷ abundance ∷ valence ∷ [])
      ≡ numbers_of decimals record_number isotope_ranges symbol number mass abundance valence
  unfolding row_of
  row_of-isotope other is = rw (other, is) refl

  pub row_of-no_symbol : is_electron symbol ≡ false → is_symbol symbol ≡ false
      → row_of decimals record_number (symbol ∷ number ∷ mass ∷ abundance ∷ valence ∷ [])
      ≡ Err (fault.Symbol record_number)
  unfolding row_of
  row_of-no_symbol other none = rw (other, none) refl

-- a symbol is not the electron's: it has no mark
pub is_electron-symbol : (s : List ℕ) → is_symbol s ≡ true → is_electron s ≡ false
is_electron-symbol [] is = refl
is_electron-symbol (a ∷ []) is = and_right _ _ refl
is_electron-symbol (a ∷ b ∷ []) is =
    let small : is_small b ≡ true = (and_parts (is_capital a) (is_small b) is).1 in
    let from : 97 ≤ b = leb-true 97 b (and_parts (nat_le 97 b) (nat_le b 122) small).0 in
    let mark : eqb b 45 ≡ false = ne_eqb b 45 (λ same. omega (arith, same)) in
    and_right _ _ (and_left _ _ mark)
is_electron-symbol (a ∷ b ∷ c ∷ more) is = and_right _ _ (and_right _ _ refl)

-- the electron's row has nothing but its mass
pub electron_row : (symbol : List ℕ) (row : Row) → is_electron symbol ≡ true → IsRowWithin electron_ranges symbol row
    → row ≡ record { symbol = codes "e-"; number = 0; mass = row.mass; weight = 0; valence = 0 }
electron_row symbol row electron within =
    let spelled : row.symbol ≡ codes "e-" = within.symbol_is ∙ (bytes_eq-Decides symbol (codes "e-")).0 electron in
    let number : row.number ≡ 0 = omega (arith, within.number_to) in
    let weight : row.weight ≡ 0 = omega (arith, within.weight_to) in
    let valence : row.valence ≡ 0 = omega (arith, within.valence_to) in
    λ i. record { symbol = spelled i; number = number i; mass = row.mass; weight = weight i; valence = valence i }

-- the symbol of a text, or else a fault
pub symbol_ok : (o : Option (List ℕ)) (text s : List ℕ) (f : TableFault)
    → o ≡ (if is_symbol text then Some text else None) → Ok s ≡ ok_or o f
    → (is_symbol text ≡ true) × (s ≡ text)
symbol_ok o text s f is read = by (is_symbol text) refl
  where
    by : (b : Bool) → is_symbol text ≡ b → (is_symbol text ≡ true) × (s ≡ text)
    by true there =
        let some : o ≡ Some text = rw there at is in
        let ok : ◌≡◌ {A = Result (List ℕ) TableFault} (Ok s) (Ok text) = rw some at read in
        let same : s ≡ text = cc in
        (there, same)
    by false none =
        let nothing : o ≡ None = rw none at is in
        let err : ◌≡◌ {A = Result (List ℕ) TableFault} (Ok s) (Err f) = rw nothing at read in
        cc

pub symbol_err : (o : Option (List ℕ)) (text : List ℕ) (f e : TableFault)
    → o ≡ (if is_symbol text then Some text else None) → Err e ≡ ok_or o f
    → (is_symbol text ≡ false) × (e ≡ f)
symbol_err o text f e is read = by (is_symbol text) refl
  where
    by : (b : Bool) → is_symbol text ≡ b → (is_symbol text ≡ false) × (e ≡ f)
    by true there =
        let some : o ≡ Some text = rw there at is in
        let ok : ◌≡◌ {A = Result (List ℕ) TableFault} (Err e) (Ok text) = rw some at read in
        cc
    by false none =
        let nothing : o ≡ None = rw none at is in
        let err : ◌≡◌ {A = Result (List ℕ) TableFault} (Err e) (Err f) = rw nothing at read in
        let same : e ≡ f = cc in
        (none, same)

-- a record of another number of fields
pub row_of-count : (decimals record_number : ℕ) (fields : List (List ℕ)) → (length fields ≡ 5 → ⊥)
    → row_of decimals record_number fields ≡ Err (fault.FieldCount record_number)
unfolding row_of
row_of-count decimals record_number (symbol ∷ number ∷ mass ∷ abundance ∷ valence ∷ []) other = absurd (other refl)
row_of-count decimals record_number fields other = refl
