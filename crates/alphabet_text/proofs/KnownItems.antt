-- What the readers look up of an item is what the table has of it.
use Rattle.std.proofs.Common.{◌≡◌, ℕ, ◌-◌, ◌<◌, ◌≤◌, ◌^◌, min, Bool, true, false, cond, nat_lt, ◌&&◌, List}
use Rattle.std.proofs.Common.{refl, sym, ap, ap₂, ◌∙◌, arith, inl, inr}
use Rattle.std.specs.Prelude.{Option, Some, None, is_some, option_map, unwrap_or}
use Rattle.std.specs.Option.{option_map_or}
use Rattle.std.specs.Str.Parse.{digits_value}
use Rattle.std.proofs.lemmas.Bool.{ne_eqb, cases_lt}
use Rattle.std.proofs.lemmas.Bool.Decides.{nat_tests}
use Rattle.written_items.specs.declared.item.Item.{Item}
use Rattle.decompose.specs.declared.limits.Limit.{Limit}
use Rattle.element_table.specs.declared.element.Isotope.{Isotope}
use Rattle.element_table.specs.Elements.{IsElement, IsTable, ElementEntry, TableEntries, isotope_of, element_of}
use Rattle.element_table.specs.Elements.{reference_isotope}
use Rattle.written_items.specs.WrittenItems.{WrittenItem, item_of, item_value}
use Rattle.formula_text.specs.FormulaTexts.{has_written}
use Rattle.alphabet_text.specs.declared.entries.AlphabetEntry.{AlphabetEntry}
use Rattle.formula_text.specs.Masses.{isotope_in, isotope_if, isotope_mass, item_mass}
use Rattle.alphabet_text.specs.WrittenEntries.{isotope_or_none, leading_isotope, entry_with}
use Rattle.alphabet_text.proofs.TableIsotopes.{found_element, isotope_of-none, IsNoNumber}

-- a mass number up to the greatest of 32 bits
abbrev capped_number : ℕ → ℕ
capped_number number = min number (2 ^ 32 - 1)

-- the mass number that digits spell, 0 where there are none
abbrev label_of : Option (List ℕ) → ℕ
label_of digits = option_map_or (digits_value 10) digits 0

-- whether a mass number is one of 32 bits above 0
abbrev is_named : ℕ → Bool
is_named number = nat_lt 0 number && nat_lt number (2 ^ 32)

abbrev names : Option (List ℕ) → Bool
names digits = option_map_or (λ digits. is_named (digits_value 10 digits)) digits true

abbrev number_of : Option (List ℕ) → Option ℕ
number_of digits = option_map (λ digits. capped_number (digits_value 10 digits)) digits

-- an entry where it is known
abbrev entry_where : Bool → List ℕ → ℕ → Option Isotope → Limit → Option AlphabetEntry
entry_where known symbol label isotope limit =
    let item : Item = record { symbol = symbol; label = label } in
    cond known (Some (record { item = item; mass = isotope_mass isotope; limit = limit })) None

none-known : (b : Bool) → (b && false) ≡ false
none-known true = refl
none-known false = refl

-- no isotope is told, and none is known
neither : (known : Bool) (symbol : List ℕ) (label told : ℕ) (isotope there : Option Isotope) (limit : Limit)
    → isotope ≡ None
    → (known && is_some there) ≡ false
    → entry_with (record { symbol = symbol; label = told }) limit isotope
    ≡ entry_where (known && is_some there) symbol label there limit
neither known symbol label told isotope there limit none unknown =
    ap (entry_with (record { symbol = symbol; label = told }) limit) none
    ∙ sym (ap (λ b. entry_where b symbol label there limit) unknown)

-- the isotope that is told is the one that is known
same : (symbol : List ℕ) (label : ℕ) (isotope : Option Isotope) (limit : Limit)
    → entry_with (record { symbol = symbol; label = label }) limit isotope
    ≡ entry_where (true && is_some isotope) symbol label isotope limit
same symbol label None limit = refl
same symbol label (Some isotope) limit = refl

-- the entry of a labelled item is told where the item is known
abbrev ToldLabel : List ℕ → ElementEntry → ℕ → Limit → Type 0
ToldLabel symbol e v limit =
    entry_with (record { symbol = symbol; label = capped_number v }) limit (isotope_of e.isotopes (capped_number v))
    ≡ entry_where (is_named v && is_some (isotope_in e v)) symbol v (isotope_in e v) limit

-- the isotope of a mass number above 0
isotope_in-above : (e : ElementEntry) (v : ℕ) → 0 < v → isotope_in e v ≡ isotope_of e.isotopes v
isotope_in-above e v some =
    ap (λ b. cond b (Some (reference_isotope e)) (isotope_of e.isotopes v)) (ne_eqb v 0 (λ none. omega arith))

far : (symbol : List ℕ) (e : ElementEntry) (v : ℕ) (limit : Limit) → IsElement e → 400 < v
    → ToldLabel symbol e v limit
far symbol e v limit is above =
    let n : IsNoNumber (capped_number v) = inr (grind arith) in
    let there : isotope_in e v ≡ None =
    isotope_in-above e v (omega arith) ∙ isotope_of-none e.isotopes v (inr above) is.isotopes in
    neither (is_named v) symbol v (capped_number v) (isotope_of e.isotopes (capped_number v)) (isotope_in e v) limit
    (isotope_of-none e.isotopes (capped_number v) n is.isotopes)
    (ap (λ o. is_named v && is_some o) there ∙ none-known (is_named v))

named : (v : ℕ) → 0 < v → v ≤ 400 → is_named v ≡ true
named v some below = grind (arith, nat_tests)

near : (symbol : List ℕ) (e : ElementEntry) (v : ℕ) (limit : Limit) → 0 < v → v ≤ 400 → ToldLabel symbol e v limit
near symbol e v limit some below =
    let number : capped_number v ≡ v = grind arith in
    ap (λ n. entry_with (record { symbol = symbol; label = n }) limit (isotope_of e.isotopes n)) number
    ∙ same symbol v (isotope_of e.isotopes v) limit
    ∙ ap₂ (λ b o. entry_where (b && is_some o) symbol v o limit) (sym (named v some below))
    (sym (isotope_in-above e v some))

unnamed : (v : ℕ) → v ≤ 0 → is_named v ≡ false
unnamed v none = grind (arith, nat_tests)

labelled : (symbol : List ℕ) (e : ElementEntry) (v : ℕ) (limit : Limit) → IsElement e → ToldLabel symbol e v limit
labelled symbol e v limit is = elim (cases_lt 0 v) [
  | inl some ↦ elim (cases_lt 400 v) [
    | inl above ↦ far symbol e v limit is above
    | inr below ↦ near symbol e v limit some below
  ]
  | inr none ↦
      let zero_number : capped_number v ≡ 0 = grind arith in
      neither (is_named v) symbol v (capped_number v) (isotope_of e.isotopes (capped_number v)) (isotope_in e v) limit
      (isotope_of-none e.isotopes (capped_number v) (inl zero_number) is.isotopes)
      (ap (λ b. b && is_some (isotope_in e v)) (unnamed v none))
]

-- an item's entry is told where the table knows the item
pub leading_isotope-known : (table : TableEntries) (w : WrittenItem) (limit : Limit) → IsTable table
    → entry_with (record { symbol = w.symbol; label = unwrap_or (item_value w).number 0 }) limit
    (leading_isotope table (item_value w))
    ≡ cond (has_written table w) (Some
    (record { item = item_of w; mass = item_mass table (item_of w); limit = limit })) None
leading_isotope-known table w limit is =
    by w.digits (element_of table w.symbol) (λ e there. found_element table w.symbol e is there)
  where
    by : (digits : Option (List ℕ)) (o : Option ElementEntry) → ((e : ElementEntry) → o ≡ Some e → IsElement e)
        → entry_with (record { symbol = w.symbol; label = unwrap_or (number_of digits) 0 }) limit
        (isotope_or_none o (number_of digits))
        ≡ entry_where (names digits && is_some (isotope_if o (label_of digits))) w.symbol (label_of digits)
        (isotope_if o (label_of digits)) limit
    by None None elements = refl
    by None (Some e) elements = refl
    by (Some ds) None elements =
        sym (ap (λ b. entry_where b w.symbol (digits_value 10 ds) None limit)
        (none-known (is_named (digits_value 10 ds))))
    by (Some ds) (Some e) elements = labelled w.symbol e (digits_value 10 ds) limit (elements e refl)
