-- The items of a formula are those of the parts that it is the sum of, so the table has them.
use Rattle.std.proofs.Common.{◌≡◌, ℕ, le_trans, ◌+◌, ◌<◌, ◌≤◌, Bool, true, false, cond, List, [], ◌∷◌, refl, sym, ap}
use Rattle.std.proofs.Common.{◌∙◌, subst, arith}
use Rattle.std.specs.Prelude.{is_some, IsTrue}
use Rattle.std.specs.List.{AllByRecursion}
use Rattle.std.proofs.lemmas.List.Elements.{All-from_recursion, recursion_from_All}
use Rattle.element_table.specs.Elements.{TableEntries}
use Rattle.written_items.specs.declared.item.Item.{Item}
use Rattle.written_items.specs.Items.{item_eq}
use Rattle.std.proofs.lemmas.Bool.{and_parts}
use Rattle.written_items.specs.WrittenItems.{names_item, item_of}
use Rattle.written_items.specs.WrittenRows.{WrittenPart}
use Rattle.formula_text.specs.FormulaTexts.{RowSums, has_written, counts_of}
use Rattle.formula_text.specs.Masses.{HasItems, item_isotope}
use Rattle.formula_text.specs.Formulas.{IsFormula, count_in}
use Rattle.formula_text.proofs.CountsInOrder.{count_in-cons}
use Rattle.formula_text.proofs.HillOrderLaws.{item_eq-same, item_eq-itself}

-- what holds of the items of parts holds of an item of which they have atoms
item_among : (P : Item → Type 0) (parts : List (Item × ℕ)) (item : Item) → AllByRecursion (λ p. P p.0) parts
    → 0 < count_in parts item → P item
item_among P [] item all some = absurd (omega (arith, some))
item_among P (part ∷ parts) item all some =
    let Goal : Bool → Type 0 = λ b. item_eq item part.0 ≡ b → P item in
    (elim (item_eq item part.0) as Goal [
      | true ↦ λ e. subst P (sym (item_eq-same item part.0 e)) all.0
      | false ↦ λ e.
          let later : count_in (part ∷ parts) item ≡ 0 + count_in parts item =
          count_in-cons part parts item ∙ ap (λ b. cond b part.1 0 + count_in parts item) e in
          item_among P parts item all.1 (omega (arith, some, later))
    ]) refl

first_or_rest : (whole first rest : ℕ) → whole ≡ first + rest → rest ≤ whole
first_or_rest whole first rest is = omega (arith, is)

has_atom : (first rest whole : ℕ) → 0 < first → whole ≡ first + rest → 1 ≤ whole
has_atom first rest whole some is = omega (arith, some, is)

-- what holds of each item with atoms holds of each item that a list has with atoms
with_atoms : (P : Item → Type 0) (items : List (Item × ℕ)) (bound : Item → ℕ)
    → ((item : Item) → count_in items item ≤ bound item) → ((item : Item) → 0 < bound item → P item)
    → AllByRecursion (λ p. 0 < p.1) items → AllByRecursion (λ p. P p.0) items
with_atoms P [] bound within holds positive = tt
with_atoms P (part ∷ items) bound within holds positive =
    let counted : count_in (part ∷ items) part.0 ≡ part.1 + count_in items part.0 =
    count_in-cons part items part.0 ∙ ap (λ b. cond b part.1 0 + count_in items part.0) (item_eq-itself part.0) in
    let some : 1 ≤ bound part.0 =
    le_trans (has_atom part.1 (count_in items part.0) (count_in (part ∷ items) part.0) positive.0 counted)
    (within part.0) in (
      holds part.0 (omega (arith, some)),
      with_atoms P items bound
          (λ item. le_trans (first_or_rest _ _ _ (count_in-cons part items item)) (within item)) holds positive.1,
    )

-- a formula has the items of the parts that it is the sum of
pub HasItems-sum : (table : TableEntries) (parts formula : List (Item × ℕ)) → IsFormula formula
    → ((item : Item) → count_in formula item ≡ count_in parts item) → HasItems table parts → HasItems table formula
HasItems-sum table parts formula is counts known =
    let there : Item → Type 0 = λ item. IsTrue (is_some (item_isotope table item)) in
    All-from_recursion (λ (p : Item × ℕ). there p.0) formula
    (with_atoms there formula (count_in parts)
    (λ item. omega (arith, counts item))
    (λ item some. item_among there parts item (recursion_from_All (λ (p : Item × ℕ). there p.0) parts known) some)
    (recursion_from_All (λ (p : Item × ℕ). 0 < p.1) formula is.parts.positive))

counts-known : (table : TableEntries) (row : List WrittenPart)
    → AllByRecursion (λ part. IsTrue (has_written table part.item)) row
    → AllByRecursion (λ p. IsTrue (is_some (item_isotope table p.0))) (counts_of row)
counts-known table [] h = tt
counts-known table (part ∷ row) h = (
  (and_parts (names_item part.item)
      (is_some (item_isotope table (item_of part.item))) h.0).1,
  counts-known table row h.1,
)

-- the table has the items of a formula that was read
pub HasItems-read : (table : TableEntries) (text : List ℕ) (formula : List (Item × ℕ)) → RowSums table text formula
    → IsFormula formula → HasItems table formula
HasItems-read table text formula is formula_is =
    HasItems-sum table (counts_of is.row) formula formula_is is.are_sums.counts
    (All-from_recursion (λ p. IsTrue (is_some (item_isotope table p.0))) (counts_of is.row)
    (counts-known table is.row (recursion_from_All (λ part. IsTrue (has_written table part.item)) is.row is.known)))
