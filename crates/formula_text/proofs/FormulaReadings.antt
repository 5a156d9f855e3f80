-- The answer that is computed is the one that the reading of a formula text allows.
use Rattle.std.proofs.Common.{◌≡◌, ℕ, ◌+◌, ◌^◌, ◌<◌, Bool, true, false, cond, ltb, List, [], ◌∷◌, ◌++◌, length, refl}
use Rattle.std.proofs.Common.{sym, ap, subst, ◌∙◌, arith, length-append}
use Rattle.std.specs.Prelude.{Option, Some, None, Result, Ok, Err, is_some, IsTrue}
use Rattle.std.specs.List.{AllByRecursion}
use Rattle.std.specs.Option.{option_or, option_map_or}
use Rattle.std.specs.Str.Parse.{digits_value}
use Rattle.std.proofs.lemmas.Bool.{false≢true, and_parts, ltb-true}
use Rattle.std.proofs.lemmas.List.Elements.{All-from_recursion, recursion_from_All}
use Rattle.element_table.specs.Elements.{TableEntries, element_of}
use Rattle.reader_answers.specs.BadPlaces.{IsBadPlace}
use Rattle.reader_answers.proofs.BadPlaceLaws.{one-bad-place, bad-place-no-text}
use Rattle.written_items.specs.declared.item.Item.{Item}
use Rattle.written_items.specs.WrittenItems.{WrittenItem, names_item, item_of}
use Rattle.written_items.specs.WrittenRows.{WrittenPart, part_text, row_text, IsPart, IsRowOf, IsRow, IsCountTail}
use Rattle.written_items.specs.RowReading.{row_of, count_tail}
use Rattle.written_items.proofs.RowLaws.{row_of-Ok, row_of-Err, row_of-written}
use Rattle.written_items.proofs.CountTails.{counts-read}
use Rattle.reader_answers.specs.Answers.{unless_fault}
use Rattle.formula_text.specs.declared.fault.PartsFault.{PartsFault}
use Rattle.formula_text.specs.declared.fault.FormulaFault.{FormulaFault}
use Rattle.formula_text.specs.declared.fault.PartsFault.TheVariants as limit
use Rattle.formula_text.specs.declared.fault.FormulaFault.TheVariants.{BadText, UnknownSymbol, UnknownIsotope}
use Rattle.formula_text.specs.declared.fault.FormulaFault.TheVariants.{TooManyAtoms, TooManyElements, Empty, Memory}
use Rattle.formula_text.specs.Formulas.{IsItem, IsParts, IsFormula, sum_of, parts_of, within_limits, has_many_atoms}
use Rattle.formula_text.specs.Formulas.{has_many_items}
use Rattle.formula_text.specs.Masses.{item_isotope, isotope_if}
use Rattle.formula_text.specs.FormulaTexts.{Answer, counts_of, has_written, RowSums, IsFirstUnknown, FormulaReading}
use Rattle.formula_text.specs.FormulaReader.{formula_or_fault, item_fault, row_fault, row_answer}
use Rattle.formula_text.specs.FormulaReader.{read_of}
use Rattle.formula_text.proofs.SumFolds.{sum_of-items}
use Rattle.formula_text.proofs.SumLimits.{same_sums, sum_of-AreSums, sum_of-IsParts, within}

-- ---- the rows of texts with counts

row-read : (text : List ℕ) (row : List WrittenPart) → row_of count_tail text ≡ Ok row → IsRowOf IsCountTail row text
row-read = row_of-Ok IsCountTail count_tail counts-read

row-bad : (text : List ℕ) (place : ℕ) → row_of count_tail text ≡ Err place → IsBadPlace (IsRow IsCountTail) text place
row-bad = row_of-Err IsCountTail count_tail counts-read

pub row-written : (row : List WrittenPart) (text : List ℕ) → IsRowOf IsCountTail row text
    → row_of count_tail text ≡ Ok row
row-written = row_of-written IsCountTail count_tail counts-read

abbrev Known : TableEntries → WrittenPart → Type 0
Known table part = IsTrue (has_written table part.item)

-- ---- the first item that the table doesn't have

element_there : (table : TableEntries) (item : WrittenItem) → has_written table item ≡ true
    → is_some (element_of table item.symbol) ≡ true
element_there table item h =
    in_element (element_of table item.symbol)
    ((and_parts (names_item item) (is_some (item_isotope table (item_of item))) h).1)
  where
    in_element : (o : Option _) → is_some (isotope_if o (item_of item).label) ≡ true → is_some o ≡ true
    in_element None h = absurd (false≢true h)
    in_element (Some e) h = refl

no_element : (table : TableEntries) (item : WrittenItem) → is_some (element_of table item.symbol) ≡ false
    → has_written table item ≡ false
no_element table item h =
    elim (has_written table item) as (λ b. has_written table item ≡ b → b ≡ false) [
      | true ↦ λ there. absurd (false≢true (sym h ∙ element_there table item there))
      | false ↦ λ _. refl
    ] refl

known-item_fault : (table : TableEntries) (at : ℕ) (item : WrittenItem) → has_written table item ≡ true
    → item_fault table at item ≡ None
known-item_fault table at item h =
    ap (λ b. cond b (cond (has_written table item) None (Some (UnknownIsotope at))) (Some (UnknownSymbol at)))
    (element_there table item h)
    ∙ ap (λ b. cond b None (Some (UnknownIsotope at))) h

pub known-row_fault : (table : TableEntries) (at : ℕ) (row : List WrittenPart) → AllByRecursion (Known table) row
    → row_fault table at row ≡ None
known-row_fault table at [] h = refl
known-row_fault table at (part ∷ row) h =
    ap (λ f. option_or f (row_fault table (at + length (part_text part)) row))
    (known-item_fault table at part.item h.0)
    ∙ known-row_fault table (at + length (part_text part)) row h.1

item_fault-known : (table : TableEntries) (at : ℕ) (item : WrittenItem) → item_fault table at item ≡ None
    → has_written table item ≡ true
item_fault-known table at item e =
    elim (has_written table item) as (λ b. has_written table item
    ≡ b → cond (is_some (element_of table item.symbol)) (cond b None (Some (UnknownIsotope at)))
    (Some (UnknownSymbol at)) ≡ None → b ≡ true) [
      | true ↦ λ _ _. refl
      | false ↦ λ _ e. absurd (some_fault (is_some (element_of table item.symbol)) at e)
    ] refl e
  where
    some_fault : (b : Bool) (at : ℕ) → cond b (Some (UnknownIsotope at)) (Some (UnknownSymbol at)) ≡ None → ⊥
    some_fault true at e = cc
    some_fault false at e = cc

pub row_fault-known : (table : TableEntries) (at : ℕ) (row : List WrittenPart) → row_fault table at row ≡ None
    → AllByRecursion (Known table) row
row_fault-known table at [] e = tt
row_fault-known table at (part ∷ row) e =
    elim (item_fault table at part.item) as (λ o. item_fault table at part.item
    ≡ o → option_or o (row_fault table (at + length (part_text part)) row) ≡ None
    → AllByRecursion (Known table) (part ∷ row)) [
      | Some f ↦ λ is e. cc
      | None ↦ λ is e. (
        item_fault-known table at part.item is,
        row_fault-known table
            (at + length (part_text part)) row e,
      )
    ] refl e

record Unknown (table : TableEntries) (at : ℕ) (row : List WrittenPart) (fault : FormulaFault) : Type 0 where
  before : List WrittenPart
  part : WrittenPart
  behind : List WrittenPart
  is : row ≡ before ++ (part ∷ behind)
  known : AllByRecursion (Known table) before
  fault_is : item_fault table (at + length (row_text before)) part.item ≡ Some fault

first_unknown : (table : TableEntries) (at : ℕ) (row : List WrittenPart) (fault : FormulaFault)
    → row_fault table at row ≡ Some fault → Unknown table at row fault
first_unknown table at [] fault e = cc
first_unknown table at (part ∷ row) fault e =
    elim (item_fault table at part.item) as (λ o. item_fault table at part.item
    ≡ o → option_or o (row_fault table (at + length (part_text part)) row) ≡ Some fault
    → Unknown table at (part ∷ row) fault) [
      | Some f ↦ λ is e.
          let here : at + 0 ≡ at = omega arith in
          record {
            before = [];
            part = part;
            behind = row;
            is = refl;
            known = tt;
            fault_is = ap (λ n. item_fault table n part.item) here ∙ is ∙ e;
          }
      | None ↦ λ is e.
          let next = first_unknown table (at + length (part_text part)) row fault e in
          let len = length-append (part_text part) (row_text next.before) in
          let here : at + length (row_text (part ∷ next.before))
          ≡ at + length (part_text part) + length (row_text next.before) = omega (arith, len) in
          record {
            before = part ∷ next.before;
            part = next.part;
            behind = next.behind;
            is = ap (λ r. part ∷ r) next.is;
            known = (item_fault-known table at part.item is, next.known);
            fault_is = ap (λ n. item_fault table n next.part.item) here ∙ next.fault_is;
          }
    ] refl e

unknown-row_fault : (table : TableEntries) (at : ℕ) (before behind : List WrittenPart) (part : WrittenPart)
    (fault : FormulaFault) → AllByRecursion (Known table) before
    → item_fault table (at + length (row_text before)) part.item ≡ Some fault
    → row_fault table at (before ++ (part ∷ behind)) ≡ Some fault
unknown-row_fault table at [] behind part fault known e =
    let here : at ≡ at + 0 = omega arith in
    ap (λ f. option_or f (row_fault table (at + length (part_text part)) behind))
    (ap (λ n. item_fault table n part.item) here ∙ e)
unknown-row_fault table at (first ∷ before) behind part fault known e =
    let len = length-append (part_text first) (row_text before) in
    let here : at + length (part_text first) + length (row_text before) ≡ at + length (row_text (first ∷ before)) =
    omega (arith, len) in
    ap (λ f. option_or f (row_fault table (at + length (part_text first)) (before ++ (part ∷ behind))))
    (known-item_fault table at first.item known.0)
    ∙ unknown-row_fault table (at + length (part_text first)) before behind part fault known.1
    (ap (λ n. item_fault table n part.item) here ∙ e)

-- ---- what is computed is allowed

none_there : {A : Type 0} (o : Option A) → is_some o ≡ false → o ≡ None
none_there None h = refl
none_there (Some x) h = absurd (false≢true (sym h))

unknown_meaning : (table : TableEntries) (text : List ℕ) (at : ℕ) (item : WrittenItem) (fault : FormulaFault)
    → item_fault table at item ≡ Some fault → (has_written table item ≡ false → IsFirstUnknown table text at item)
    → FormulaReading table text (Err fault)
unknown_meaning table text at item fault e unknown =
    elim (is_some (element_of table item.symbol)) as (λ b. is_some (element_of table item.symbol)
    ≡ b → cond b (cond (has_written table item) None (Some (UnknownIsotope at))) (Some (UnknownSymbol at))
    ≡ Some fault → FormulaReading table text (Err fault)) [
      | false ↦ λ none e.
          let same : UnknownSymbol at ≡ fault = cc in
          subst (λ f. FormulaReading table text (Err f)) same
          (item, unknown (no_element table item none), none_there (element_of table item.symbol) none)
      | true ↦ λ there e. elim (has_written table item) as (λ b. has_written table item
          ≡ b → cond b None (Some (UnknownIsotope at)) ≡ Some fault → FormulaReading table text (Err fault)) [
            | true ↦ λ known e. cc
            | false ↦ λ other e.
                let same : UnknownIsotope at ≡ fault = cc in
                subst (λ f. FormulaReading table text (Err f)) same (item, unknown other, there)
          ] refl e
    ] refl e

fault_meaning : (table : TableEntries) (text : List ℕ) (row : List WrittenPart) (fault : FormulaFault)
    → IsRowOf IsCountTail row text → Unknown table 0 row fault → FormulaReading table text (Err fault)
fault_meaning table text row fault is unknown =
    let here : 0 + length (row_text unknown.before) ≡ length (row_text unknown.before) = omega arith in
    unknown_meaning table text (0 + length (row_text unknown.before)) unknown.part.item fault unknown.fault_is
    (λ other. record {
      before = unknown.before;
      tail = unknown.part.tail;
      behind = unknown.behind;
      is = subst (λ r. IsRowOf IsCountTail r text) unknown.is is;
      known = All-from_recursion (Known table) unknown.before unknown.known;
      unknown = other;
      here = here;
    })

label_fits : (o : Option (List ℕ)) (s : List ℕ) → names_item (record { symbol = s; digits = o }) ≡ true
    → option_map_or (digits_value 10) o 0 < 2 ^ 32
label_fits None s h = omega arith
label_fits (Some ds) s h =
    ltb-true (digits_value 10 ds) (2 ^ 32)
    (and_parts (ltb 0 (digits_value 10 ds)) (ltb (digits_value 10 ds) (2 ^ 32)) h).1

known-IsItem : (table : TableEntries) (row : List WrittenPart) → AllByRecursion (Known table) row
    → AllByRecursion (IsPart IsCountTail) row → AllByRecursion (λ p. IsItem p.0) (counts_of row)
known-IsItem table [] known is = tt
known-IsItem table (part ∷ row) known is =
    let item = part.item in
    let named = (and_parts (names_item item) (is_some (item_isotope table (item_of item))) known.0).0 in (
      record { symbol = is.0.item.symbol; label = label_fits item.digits item.symbol named },
      known-IsItem table row
          known.1 is.1,
    )

abbrev limits_if : List (Item × ℕ) → Bool → Bool → Result (List (Item × ℕ)) PartsFault
limits_if sums atoms items = cond atoms (Err limit.TooManyAtoms) (cond items (Err limit.TooManyElements) (Ok sums))

formula_meaning : (table : TableEntries) (text : List ℕ) (sums : List (Item × ℕ)) → RowSums table text sums
    → IsParts sums → FormulaReading table text (formula_or_fault (Ok sums))
formula_meaning table text [] of_row parts = of_row
formula_meaning table text (p ∷ ps) of_row parts = (of_row, record { parts = parts; some_atom = omega arith })

sums_meaning : (table : TableEntries) (text : List ℕ) (parts : List (Item × ℕ)) → RowSums table text (sum_of parts)
    → AllByRecursion (λ p. IsItem p.0) parts → FormulaReading table text (formula_or_fault (parts_of parts))
sums_meaning table text parts of_row each =
    let sums : List (Item × ℕ) = sum_of parts in
    elim (has_many_atoms sums) as (λ b. has_many_atoms sums
    ≡ b → FormulaReading table text (formula_or_fault (limits_if sums b (has_many_items sums)))) [
      | true ↦ λ many. (sums, of_row, many)
      | false ↦ λ few. elim (has_many_items sums) as (λ b. has_many_items sums
          ≡ b → FormulaReading table text (formula_or_fault (limits_if sums false b))) [
            | true ↦ λ many. (sums, of_row, few, many)
            | false ↦ λ within. formula_meaning table text sums of_row
                (sum_of-IsParts parts (All-from_recursion (λ p. IsItem p.0) sums
                (sum_of-items IsItem parts each)) few within)
          ] refl
    ] refl

row_meaning : (table : TableEntries) (text : List ℕ) (row : List WrittenPart) → IsRowOf IsCountTail row text
    → FormulaReading table text (row_answer table (Ok row))
row_meaning table text row is =
    elim (row_fault table 0 row) as (λ o. row_fault table 0 row
    ≡ o → FormulaReading table text (unless_fault o (formula_or_fault (parts_of (counts_of row))))) [
      | Some fault ↦ λ e. fault_meaning table text row fault is (first_unknown table 0 row fault e)
      | None ↦ λ e.
          let known = row_fault-known table 0 row e in
          sums_meaning table text (counts_of row)
          (record {
            row = row;
            is = is;
            known = All-from_recursion (Known table) row known;
            are_sums = sum_of-AreSums
                (counts_of row);
          })
          (known-IsItem table row known (recursion_from_All (IsPart IsCountTail) row is.parts))
    ] refl

-- the answer that is computed is one that the reading allows
pub reading-meaning : (table : TableEntries) (text : List ℕ) → FormulaReading table text (read_of table text)
unfolding read_of
reading-meaning table text =
    elim (row_of count_tail text) as (λ r. row_of count_tail text
    ≡ r → FormulaReading table text (row_answer table r)) [
      | Err place ↦ λ e. row-bad text place e
      | Ok row ↦ λ e. row_meaning table text row (row-read text row e)
    ] refl

-- ---- nothing else is allowed

pub read_of-row : (table : TableEntries) (text : List ℕ) (row : List WrittenPart) → IsRowOf IsCountTail row text
    → read_of table text ≡ row_answer table (Ok row)
unfolding read_of
read_of-row table text row is = ap (row_answer table) (row-written row text is)

known_answer : (table : TableEntries) (text : List ℕ) (sums : List (Item × ℕ)) → RowSums table text sums
    → read_of table text ≡ formula_or_fault (within_limits sums)
known_answer table text sums of_row =
    read_of-row table text of_row.row of_row.is
    ∙ ap (λ o. unless_fault o (formula_or_fault (parts_of (counts_of of_row.row))))
    (known-row_fault table 0 of_row.row (recursion_from_All (Known table) of_row.row of_row.known))
    ∙ ap (λ s. formula_or_fault (within_limits s)) (sym (same_sums (counts_of of_row.row) sums of_row.are_sums))

not_empty : (f : List (Item × ℕ)) → 0 < length f → formula_or_fault (Ok f) ≡ Ok f
not_empty [] h = absurd (omega arith)
not_empty (p ∷ ps) h = refl

pub formula_answer : (table : TableEntries) (text : List ℕ) (f : List (Item × ℕ)) → RowSums table text f → IsFormula f
    → read_of table text ≡ Ok f
formula_answer table text f of_row is =
    known_answer table text f of_row ∙ ap formula_or_fault (within f is.parts) ∙ not_empty f is.some_atom

unknown_answer : (table : TableEntries) (text : List ℕ) (place : ℕ) (item : WrittenItem) (fault : FormulaFault)
    → IsFirstUnknown table text place item → item_fault table place item ≡ Some fault → read_of table text ≡ Err fault
unknown_answer table text place item fault unknown e =
    let part : WrittenPart = record { item = item; tail = unknown.tail } in
    let here : 0 + length (row_text unknown.before) ≡ place = omega (arith, unknown.here) in
    read_of-row table text (unknown.before ++ (part ∷ unknown.behind)) unknown.is
    ∙ ap (λ o. unless_fault o (formula_or_fault (parts_of (counts_of (unknown.before ++ (part ∷ unknown.behind))))))
    (unknown-row_fault table 0 unknown.before unknown.behind part fault
    (recursion_from_All (Known table) unknown.before unknown.known) (ap (λ n. item_fault table n item) here ∙ e))

bad_answer : (table : TableEntries) (text : List ℕ) (place : ℕ) → IsBadPlace (IsRow IsCountTail) text place
    → read_of table text ≡ Err (BadText place)
unfolding read_of
bad_answer table text place bad =
    elim (row_of count_tail text) as (λ r. row_of count_tail text ≡ r → row_answer table r ≡ Err (BadText place)) [
      | Err other ↦ λ e. ap (λ p. Err (BadText p))
          (one-bad-place (IsRow IsCountTail) text other place (row-bad text other e) bad)
      | Ok row ↦ λ e. absurd (bad-place-no-text (IsRow IsCountTail) text place bad
          (record { row = row; is = row-read text row e }))
    ] refl

only_answer : (table : TableEntries) (text : List ℕ) (answer : Answer) → FormulaReading table text answer
    → read_of table text ≡ answer
only_answer table text (Ok f) h = formula_answer table text f h.0 h.1
only_answer table text (Err (BadText place)) h = bad_answer table text place h
only_answer table text (Err (UnknownSymbol place)) h =
    unknown_answer table text place h.0 (UnknownSymbol place) h.1
    (ap (λ b. cond b (cond (has_written table h.0) None (Some (UnknownIsotope place))) (Some (UnknownSymbol place)))
    (ap is_some h.2))
only_answer table text (Err (UnknownIsotope place)) h =
    unknown_answer table text place h.0 (UnknownIsotope place) h.1
    (ap (λ b. cond b (cond (has_written table h.0) None (Some (UnknownIsotope place))) (Some (UnknownSymbol place))) h.2
    ∙ ap (λ b. cond b None (Some (UnknownIsotope place))) h.1.unknown)
only_answer table text (Err TooManyAtoms) h =
    known_answer table text h.0 h.1 ∙ ap (λ b. formula_or_fault (limits_if h.0 b (has_many_items h.0))) h.2
only_answer table text (Err TooManyElements) h =
    known_answer table text h.0 h.1 ∙ ap (λ b. formula_or_fault (limits_if h.0 b (has_many_items h.0))) h.2
    ∙ ap (λ b. formula_or_fault (limits_if h.0 false b)) h.3
only_answer table text (Err Empty) h = known_answer table text [] h
only_answer table text (Err (Memory e)) h = absurd h

-- it is the only answer that the reading allows
pub reading-only : (table : TableEntries) (text : List ℕ) (answer : Answer) → FormulaReading table text answer
    → answer ≡ read_of table text
reading-only table text answer h = sym (only_answer table text answer h)
