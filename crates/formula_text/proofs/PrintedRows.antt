-- The printed text of a formula is a row of its items, and is read as the formula.
use Rattle.std.proofs.Common.{◌≡◌, ℕ, ◌^◌, ◌<◌, ◌≤◌, true, false, cond, ◌&&◌, ltb, eqb, List, [], ◌∷◌, ◌++◌, map}
use Rattle.std.proofs.Common.{length, refl, sym, ap, ◌∙◌, arith, append_assoc}
use Rattle.std.specs.Prelude.{Option, Some, None, Ok, IsTrue, IfSome, is_some}
use Rattle.std.specs.List.{AllByRecursion}
use Rattle.std.specs.Option.{option_map_or}
use Rattle.std.specs.Fmt.{decimal}
use Rattle.std.specs.Str.Parse.{digits_value}
use Rattle.std.proofs.lemmas.Bool.{and_from, eqb-false, lt-ltb}
use Rattle.std.proofs.lemmas.Bool.Decides.{nat_tests}
use Rattle.std.proofs.lemmas.Fmt.{decimal_is_IsNumeral}
use Rattle.std.proofs.lemmas.List.Elements.{All-from_recursion, recursion_from_All}
use Rattle.element_table.specs.Elements.{TableEntries}
use Rattle.written_items.specs.declared.item.Item.{Item}
use Rattle.written_items.specs.Items.{item_text, count_text, opening_bracket, closing_bracket}
use Rattle.fixed_decimal.specs.DecimalTexts.{IsDigits}
use Rattle.written_items.specs.WrittenItems.{WrittenItem, text_with, names_item, item_of}
use Rattle.written_items.specs.WrittenRows.{WrittenPart, row_text, IsPart, IsRowOf, IsCountTail, count_of_tail}
use Rattle.written_items.proofs.RowLaws.{one-row}
use Rattle.written_items.specs.RowReading.{count_tail}
use Rattle.written_items.proofs.ByteKinds.{numeral-digits}
use Rattle.written_items.proofs.CountTails.{counts-read}
use Rattle.formula_text.specs.Formulas.{IsItem, IsFormula, count_in}
use Rattle.formula_text.specs.Masses.{HasItems, item_isotope}
use Rattle.formula_text.specs.PrintedText.{printed_text}
use Rattle.formula_text.specs.FormulaTexts.{FormulaText, counts_of, has_written}
use Rattle.formula_text.specs.FormulaReader.{read_of}
use Rattle.formula_text.proofs.SumLimits.{same_sum}
use Rattle.formula_text.proofs.FormulaReadings.{formula_answer}

-- ---- an item as it is printed

abbrev label_digits : ℕ → Option (List ℕ)
label_digits label = cond (eqb label 0) None (Some (decimal label))

abbrev written_of : Item → WrittenItem
written_of item = record { symbol = item.symbol; digits = label_digits item.label }

label-text : (label : ℕ) (s : List ℕ)
    → text_with (label_digits label) s ≡ item_text (record { symbol = s; label = label })
label-text label s =
    elim (eqb label 0) as (λ b. text_with (cond b None (Some (decimal label))) s
    ≡ cond b s (opening_bracket ∷ decimal label ++ s ++ closing_bracket ∷ [])) [
      | true ↦ refl
      | false ↦ ap (λ t. opening_bracket ∷ t) (sym (append_assoc (decimal label) s (closing_bracket ∷ [])))
    ]

label-number : (label : ℕ) → label < 2 ^ 32 → IfSome (label_digits label) IsDigits
label-number label h =
    elim (eqb label 0) as (λ b. IfSome (cond b None (Some (decimal label))) IsDigits) [
      | true ↦ tt
      | false ↦
          let numeral = decimal_is_IsNumeral label (omega arith) in
          (numeral.0.0, numeral.0.1)
    ]

label-value : (label : ℕ) → label < 2 ^ 32 → option_map_or (digits_value 10) (label_digits label) 0 ≡ label
label-value label h =
    elim (eqb label 0) as (λ b. eqb label 0 ≡ b → option_map_or (digits_value 10) (cond b None (Some (decimal label))) 0
    ≡ label) [
      | true ↦ λ e. grind (arith, nat_tests)
      | false ↦ λ e. (decimal_is_IsNumeral label (omega arith)).1
    ] refl

label-names : (label : ℕ) (s : List ℕ) → label < 2 ^ 32
    → names_item (record { symbol = s; digits = label_digits label }) ≡ true
label-names label s h =
    elim (eqb label 0) as (λ b. eqb label 0
    ≡ b → names_item (record { symbol = s; digits = cond b None (Some (decimal label)) }) ≡ true) [
      | true ↦ λ e. refl
      | false ↦ λ e.
          let value = (decimal_is_IsNumeral label (omega arith)).1 in
          let some : 0 < label = omega (arith, eqb-false label 0 e) in
          ap (λ n. ltb 0 n && ltb n (2 ^ 32)) value ∙ and_from _ _ (lt-ltb 0 label some) (lt-ltb label (2 ^ 32) h)
    ] refl

count-tail : (n : ℕ) → n ≤ 10000 → IsCountTail (count_text n) × (count_of_tail (count_text n) ≡ n)
count-tail n h =
    elim (eqb n 1) as (λ b. eqb n 1
    ≡ b → IsCountTail (cond b [] (decimal n)) × (count_of_tail (cond b [] (decimal n)) ≡ n)) [
      | true ↦ λ e. (refl, grind (arith, nat_tests))
      | false ↦ λ e.
          let numeral = decimal_is_IsNumeral n (omega arith) in
          (numeral-digits (decimal n) numeral.0.1, counted (decimal n) numeral.0.0 ∙ numeral.1)
    ] refl
  where
    counted : (ds : List ℕ) → 0 < length ds → count_of_tail ds ≡ digits_value 10 ds
    counted [] h = absurd (omega arith)
    counted (d ∷ ds) h = refl

-- ---- the row of a formula

abbrev printed_part : Item × ℕ → WrittenPart
printed_part p = record { item = written_of p.0; tail = count_text p.1 }

abbrev AreItems : List (Item × ℕ) → Type 0
AreItems f = AllByRecursion (λ p. IsItem p.0) f

abbrev AreFew : List (Item × ℕ) → Type 0
AreFew f = AllByRecursion (λ p. p.1 ≤ 10000) f

parts-printed : (f : List (Item × ℕ)) → AreItems f → AreFew f → AllByRecursion (IsPart IsCountTail) (map printed_part f)
parts-printed [] is few = tt
parts-printed (p ∷ ps) is few = (
  record {
    item = record { symbol = is.0.symbol; digits = label-number p.0.label is.0.label };
    tail =
        (count-tail p.1 few.0).0;
  },
  parts-printed ps is.1 few.1,
)

names-printed : (f : List (Item × ℕ)) → AreItems f
    → AllByRecursion (λ part. IsTrue (names_item part.item)) (map printed_part f)
names-printed [] is = tt
names-printed (p ∷ ps) is = (label-names p.0.label p.0.symbol is.0.label, names-printed ps is.1)

counts-printed : (f : List (Item × ℕ)) → AreItems f → AreFew f → counts_of (map printed_part f) ≡ f
counts-printed [] is few = refl
counts-printed (p ∷ ps) is few =
    let label = label-value p.0.label is.0.label in
    λ i. (record { symbol = p.0.symbol; label = label i }, (count-tail p.1 few.0).1 i) ∷ counts-printed ps is.1 few.1 i

text-printed : (f : List (Item × ℕ)) → printed_text f ≡ row_text (map printed_part f)
text-printed [] = refl
text-printed (p ∷ ps) =
    ap (λ t. (t ++ count_text p.1) ++ printed_text ps) (sym (label-text p.0.label p.0.symbol))
    ∙ ap (λ t. (text_with (label_digits p.0.label) p.0.symbol ++ count_text p.1) ++ t) (text-printed ps)

some_printed : (f : List (Item × ℕ)) → 0 < length f → 0 < length (map printed_part f)
some_printed [] h = h
some_printed (p ∷ ps) h = omega arith

row-printed : (f : List (Item × ℕ)) → AreItems f → AreFew f
    → IsRowOf IsCountTail (map printed_part f) (printed_text f)
row-printed f is few =
    record {
      parts = All-from_recursion (IsPart IsCountTail) (map printed_part f)
          (parts-printed f is few);
      spelled = text-printed f;
    }

-- the printed text of a formula is related to it
pub printed_text-FormulaText : (f : List (Item × ℕ)) → IsFormula f → FormulaText (printed_text f) f
printed_text-FormulaText f h =
    let is = recursion_from_All (λ p. IsItem p.0) f h.parts.are_items in
    let few = recursion_from_All (λ p. p.1 ≤ 10000) f h.parts.few_of_each in
    record {
      row = map printed_part f;
      some_item = some_printed f h.some_atom;
      is = row-printed f is few;
      named = All-from_recursion (λ part. IsTrue (names_item part.item)) (map printed_part f) (names-printed f is);
      counts = λ q. ap (λ l. count_in l q) (sym (counts-printed f is few));
    }

-- two formulas of one text are one
pub same_formula : (text : List ℕ) (f g : List (Item × ℕ)) → IsFormula f → IsFormula g → FormulaText text f
    → FormulaText text g → g ≡ f
same_formula text f g of_f of_g a b =
    let same : counts_of b.row ≡ counts_of a.row =
    ap counts_of (one-row IsCountTail count_tail counts-read b.row a.row text b.is a.is) in
    same_sum (counts_of a.row) g (record { formula = of_g; counts = λ q. b.counts q ∙ ap (λ l. count_in l q) same })
    ∙ sym (same_sum (counts_of a.row) f (record { formula = of_f; counts = a.counts }))

known-printed : (table : TableEntries) (f : List (Item × ℕ)) → AreItems f
    → AllByRecursion (λ p. IsTrue (is_some (item_isotope table p.0))) f
    → AllByRecursion (λ part. IsTrue (has_written table part.item)) (map printed_part f)
known-printed table [] is known = tt
known-printed table (p ∷ ps) is known =
    let label = label-value p.0.label is.0.label in
    let item : item_of (written_of p.0) ≡ p.0 = λ i. record { symbol = p.0.symbol; label = label i } in (
      and_from _ _ (label-names p.0.label p.0.symbol is.0.label)
          (ap (λ q. is_some (item_isotope table q)) item ∙ known.0),
      known-printed table ps is.1 known.1,
    )

-- with a table that has its items the printed text of a formula is read as the formula
pub read_of-printed_text : (table : TableEntries) (f : List (Item × ℕ)) → IsFormula f → HasItems table f
    → read_of table (printed_text f) ≡ Ok f
read_of-printed_text table f h known =
    let is = recursion_from_All (λ p. IsItem p.0) f h.parts.are_items in
    let few = recursion_from_All (λ p. p.1 ≤ 10000) f h.parts.few_of_each in
    formula_answer table (printed_text f) f
    (record {
      row = map printed_part f;
      is = row-printed f is few;
      known =
          All-from_recursion (λ part. IsTrue (has_written table part.item)) (map printed_part f)
          (known-printed table f is (recursion_from_All (λ p. IsTrue (is_some (item_isotope table p.0))) f known));
      are_sums = record {
        ordered = h.parts.ordered;
        positive = h.parts.positive;
        counts = λ q. ap (λ l. count_in l q) (sym (counts-printed f is few));
      };
    })
    h
