-- What is kept of the parts of a row is enough: the same faults, and the same counts up to the cap.
use Rattle.std.proofs.Common.{◌≡◌, ℕ, ◌+◌, ◌-◌, ◌^◌, ◌<◌, ◌≤◌, min, Bool, true, false, cond, ◌&&◌, ltb, eqb, List, []}
use Rattle.std.proofs.Common.{◌∷◌, length, map, refl, sym, ap, subst, ◌∙◌, arith, inl, inr}
use Rattle.std.specs.Prelude.{Option, Some, None, is_some, IsTrue, find, option_map, unwrap_or}
use Rattle.std.specs.Option.{option_or, option_map_or}
use Rattle.std.specs.List.{AllByRecursion}
use Rattle.std.specs.Str.{bytes_eq}
use Rattle.std.specs.Str.Parse.{digits_value}
use Rattle.std.proofs.lemmas.Bool.{false≢true, and_parts, and_right, ltb-true, lt-ltb, le-ltb, eqb-true, ne_eqb}
use Rattle.std.proofs.lemmas.Bool.{cases_lt}
use Rattle.std.proofs.lemmas.List.Elements.{recursion_from_All}
use Rattle.element_table.specs.declared.element.Isotope.{Isotope}
use Rattle.element_table.specs.Elements.{TableEntries, ElementEntry, IsTable, IsElement, IsIsotope, element_of}
use Rattle.element_table.specs.Elements.{isotope_of, reference_isotope}
use Rattle.written_items.specs.WrittenItems.{WrittenItem, names_item, item_of}
use Rattle.written_items.specs.WrittenRows.{WrittenPart, part_text, count_of_tail}
use Rattle.formula_text.specs.declared.fault.FormulaFault.{FormulaFault}
use Rattle.formula_text.specs.declared.fault.FormulaFault.TheVariants.{UnknownSymbol, UnknownIsotope}
use Rattle.formula_text.specs.Masses.{isotope_in, isotope_if, item_isotope}
use Rattle.formula_text.specs.FormulaTexts.{counts_of, has_written}
use Rattle.formula_text.specs.FormulaReader.{item_fault, row_fault, capped_part, part_value, row_values}
use Rattle.formula_text.specs.FormulaReader.{value_part, value_fault_if, value_fault, values_fault}

-- the isotopes of an element have mass numbers up to 400
isotope_of-number : (is : List Isotope) (n : ℕ) → AllByRecursion IsIsotope is → is_some (isotope_of is n) ≡ true
    → n ≤ 400
isotope_of-number [] n h e = absurd (false≢true e)
isotope_of-number (i ∷ is) n h e =
    elim (eqb i.number n) as (λ b. eqb i.number n ≡ b → is_some (cond b (Some i) (isotope_of is n)) ≡ true → n ≤ 400) [
      | true ↦ λ same e. let few = h.0.number_to in omega (arith, eqb-true i.number n same, few)
      | false ↦ λ other e. isotope_of-number is n h.1 e
    ] refl e

-- the element of a symbol is one of the table's
found_element : (es : List ElementEntry) (symbol : List ℕ) (e : ElementEntry) → AllByRecursion IsElement es
    → find (λ e. bytes_eq e.symbol symbol) es ≡ Some e → IsElement e
found_element [] symbol e h is = cc
found_element (x ∷ es) symbol e h is =
    elim (bytes_eq x.symbol symbol) as (λ b. cond b (Some x) (find (λ e. bytes_eq e.symbol symbol) es)
    ≡ Some e → IsElement e) [
      | true ↦ λ is. let same : x ≡ e = cc in subst IsElement same h.0
      | false ↦ λ is. found_element es symbol e h.1 is
    ] is

-- whether an element has the isotope of a number that is capped
abbrev has_capped : ElementEntry → ℕ → Bool
has_capped e n = ltb 0 n && is_some (isotope_of e.isotopes n)

-- whether it has the isotope of digits
abbrev has_label : ElementEntry → ℕ → Bool
has_label e n = (ltb 0 n && ltb n (2 ^ 32)) && is_some (isotope_in e n)

few-capped_part : (e : ElementEntry) (n : ℕ) → n < 2 ^ 32 - 1 → has_capped e (min n (2 ^ 32 - 1)) ≡ has_label e n
few-capped_part e n h =
    let same : min n (2 ^ 32 - 1) ≡ n = omega arith in
    let within : ltb n (2 ^ 32) ≡ true = lt-ltb n (2 ^ 32) (omega arith) in
    ap (has_capped e) same ∙ one e n ∙ ap (λ b. (ltb 0 n && b) && is_some (isotope_in e n)) (sym within)
  where
    none : (n : ℕ) → eqb n 0 ≡ true → ltb 0 n ≡ false
    none n zero = le-ltb 0 n (omega (arith, eqb-true n 0 zero))

    and_true : (b : Bool) → (b && true) ≡ b
    and_true true = refl
    and_true false = refl

    one : (e : ElementEntry) (n : ℕ) → has_capped e n ≡ (ltb 0 n && true) && is_some (isotope_in e n)
    one e n =
        elim (eqb n 0) as (λ b. eqb n 0 ≡ b → has_capped e n
        ≡ (ltb 0 n && true) && is_some (cond b (Some (reference_isotope e)) (isotope_of e.isotopes n))) [
          | true ↦ λ zero. ap (λ b. b && is_some (isotope_of e.isotopes n)) (none n zero)
              ∙ sym (ap (λ b. (b && true) && is_some (Some (reference_isotope e))) (none n zero))
          | false ↦ λ some. ap (λ b. b && is_some (isotope_of e.isotopes n)) (sym (and_true (ltb 0 n)))
        ] refl

no_isotope : (e : ElementEntry) (n : ℕ) → IsElement e → 400 < n → is_some (isotope_of e.isotopes n) ≡ false
no_isotope e n h many =
    elim (is_some (isotope_of e.isotopes n)) as (λ b. is_some (isotope_of e.isotopes n) ≡ b → b ≡ false) [
      | true ↦ λ there. let few =
          isotope_of-number e.isotopes n (recursion_from_All IsIsotope e.isotopes h.isotopes) there in absurd
          (omega arith)
      | false ↦ λ _. refl
    ] refl

many-capped_part : (e : ElementEntry) (n : ℕ) → IsElement e → 2 ^ 32 - 1 ≤ n
    → has_capped e (min n (2 ^ 32 - 1)) ≡ has_label e n
many-capped_part e n h many =
    let cap : min n (2 ^ 32 - 1) ≡ 2 ^ 32 - 1 = omega arith in
    let other : eqb n 0 ≡ false = ne_eqb n 0 (λ zero. absurd (omega (arith, many, zero))) in
    let label : is_some (isotope_in e n) ≡ false =
    ap (λ b. is_some (cond b (Some (reference_isotope e)) (isotope_of e.isotopes n))) other
    ∙ no_isotope e n h (omega (arith, many)) in
    ap (has_capped e) cap ∙ and_right (ltb 0 (2 ^ 32 - 1)) _ (no_isotope e (2 ^ 32 - 1) h (omega arith))
    ∙ sym (and_right (ltb 0 n && ltb n (2 ^ 32)) _ label)

same_capped : (e : ElementEntry) (n : ℕ) → IsElement e → has_capped e (min n (2 ^ 32 - 1)) ≡ has_label e n
same_capped e n h =
    elim (cases_lt n (2 ^ 32 - 1)) [ inl few ↦ few-capped_part e n few | inr many ↦ many-capped_part e n h many ]

-- the fault of an item whose element is this
abbrev fault_in : Option ElementEntry → ℕ → WrittenItem → Option FormulaFault
fault_in o at item =
    cond (is_some o) (cond (names_item item && is_some (isotope_if o (item_of item).label)) None
    (Some (UnknownIsotope at))) (Some (UnknownSymbol at))

-- the fault of what is kept of an item is the item's
kept_fault : (table : TableEntries) (at : ℕ) (s : List ℕ) (digits : Option (List ℕ)) (o : Option ElementEntry)
    → element_of table s ≡ o → ((e : ElementEntry) → o ≡ Some e → IsElement e)
    → value_fault_if at o (option_map (λ ds. min (digits_value 10 ds) (2 ^ 32 - 1)) digits)
    ≡ fault_in o at (record { symbol = s; digits = digits })
kept_fault table at s digits None is elements = refl
kept_fault table at s None (Some e) is elements = refl
kept_fault table at s (Some ds) (Some e) is elements =
    ap (λ b. cond b None (Some (UnknownIsotope at))) (same_capped e (digits_value 10 ds) (elements e refl))

kept_item-fault : (table : TableEntries) (at : ℕ) (part : WrittenPart) → IsTable table
    → value_fault table (part_value at part) ≡ item_fault table at part.item
kept_item-fault table at part is =
    let item = part.item in
    kept_fault table at item.symbol item.digits (element_of table item.symbol) refl
    (λ e there. found_element table.elements item.symbol e
    (recursion_from_All IsElement table.elements is.elements) there)

-- the first fault of what is kept of a row is the row's
pub values_fault-row : (table : TableEntries) (at : ℕ) (row : List WrittenPart) → IsTable table
    → values_fault table (row_values at row) ≡ row_fault table at row
values_fault-row table at [] is = refl
values_fault-row table at (part ∷ row) is =
    ap (λ f. option_or f (values_fault table (row_values (at + length (part_text part)) row)))
    (kept_item-fault table at part is)
    ∙ ap (option_or (item_fault table at part.item)) (values_fault-row table (at + length (part_text part)) row is)

-- a known item is kept
known_label : (o : Option (List ℕ)) (s : List ℕ) → names_item (record { symbol = s; digits = o }) ≡ true
    → unwrap_or (option_map (λ ds. min (digits_value 10 ds) (2 ^ 32 - 1)) o) 0 ≡ option_map_or (digits_value 10) o 0
known_label None s h = refl
known_label (Some ds) s h =
    let n : ℕ = digits_value 10 ds in
    let few = ltb-true n (2 ^ 32) (and_parts (ltb 0 n) (ltb n (2 ^ 32)) h).1 in
    omega (arith, few)

-- the items that are kept of a row that the table has are the row's, with capped counts
pub value_parts-row : (table : TableEntries) (at : ℕ) (row : List WrittenPart)
    → AllByRecursion (λ part. IsTrue (has_written table part.item)) row
    → map value_part (row_values at row) ≡ map capped_part (counts_of row)
value_parts-row table at [] known = refl
value_parts-row table at (part ∷ row) known =
    let item = part.item in
    let named = (and_parts (names_item item) (is_some (item_isotope table (item_of item))) known.0).0 in
    let label = known_label item.digits item.symbol named in
    λ i. (
      record { symbol = item.symbol; label = label i },
      min (count_of_tail part.tail)
          (2 ^ 32 - 1),
    ) ∷ value_parts-row table (at + length (part_text part)) row known.1 i
