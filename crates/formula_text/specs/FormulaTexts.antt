-- Formula texts: rows of items with counts, and what a reader of a text answers.
--     formula = item count? item count? ..    one or more items
--     count   = digit digit ..                none for 1
use Rattle.std.specs.Prelude.{ℕ, ◌<◌, ◌≡◌, Bool, false, ◌&&◌, List, [], ◌∷◌, ◌++◌, length, map, All, IsTrue, is_some}
use Rattle.std.specs.Prelude.{None, Result, Ok, Err}
use Rattle.reader_answers.specs.BadPlaces.{IsBadPlace}
use Rattle.written_items.specs.declared.item.Item.{Item}
use Rattle.written_items.specs.WrittenItems.{WrittenItem, item_of, names_item}
use Rattle.written_items.specs.WrittenRows.{WrittenPart, row_text, IsCountTail, IsRowOf, IsRow, count_of_tail}
use Rattle.element_table.specs.Elements.{TableEntries, element_of}
use Rattle.formula_text.specs.declared.fault.FormulaFault.{FormulaFault}
use Rattle.formula_text.specs.declared.fault.FormulaFault.TheVariants.{BadText, UnknownSymbol, UnknownIsotope}
use Rattle.formula_text.specs.declared.fault.FormulaFault.TheVariants.{TooManyAtoms, TooManyElements, Empty, Memory}
use Rattle.formula_text.specs.Formulas.{IsFormula, SumsUp, AreSums, has_many_atoms, has_many_items}
use Rattle.formula_text.specs.Masses.{item_isotope}

-- what a reader answers: a formula or a fault
abbrev pub Answer : Type 0
Answer = Result (List (Item × ℕ)) FormulaFault

-- the items of a row with their counts
abbrev pub counts_of : List WrittenPart → List (Item × ℕ)
counts_of row = map (λ part. (item_of part.item, count_of_tail part.tail)) row

-- The text is a row of items, and each item's count in f is the sum of its counts in the row. The mass number 0
-- is of no item.
pub record FormulaText (text : List ℕ) (f : List (Item × ℕ)) : Type 0 where
  pub row : List WrittenPart
  pub some_item : 0 < length row
  pub is : IsRowOf IsCountTail row text
  pub named : All (λ part. IsTrue (names_item part.item)) row
  pub counts : SumsUp (counts_of row) f

-- whether the table has the element of a written item, and its isotope where it is labelled
abbrev pub has_written : TableEntries → WrittenItem → Bool
has_written table item = names_item item && is_some (item_isotope table (item_of item))

-- the text is a row of items, the table has each of them, and these are the sums of their counts
pub record RowSums (table : TableEntries) (text : List ℕ) (sums : List (Item × ℕ)) : Type 0 where
  pub row : List WrittenPart
  pub is : IsRowOf IsCountTail row text
  pub known : All (λ part. IsTrue (has_written table part.item)) row
  pub are_sums : AreSums (counts_of row) sums

-- The text is a row of items of which this is the first that the table doesn't have; its place is the length of
-- the row before it.
pub record IsFirstUnknown (table : TableEntries) (text : List ℕ) (place : ℕ) (item : WrittenItem) : Type 0 where
  pub before : List WrittenPart
  pub tail : List ℕ
  pub behind : List WrittenPart
  pub is : IsRowOf IsCountTail (before ++ (record { item = item; tail = tail } ∷ behind)) text
  pub known : All (λ part. IsTrue (has_written table part.item)) before
  pub unknown : has_written table item ≡ false
  pub here : place ≡ length (row_text before)

-- What a reader of a text answers. A formula: the table has each item of the row, the formula is their sums. Bad
-- text: no row goes on at the place. An unknown symbol or isotope: the first item that the table doesn't have,
-- without and with its element. Then, of the sums, too many atoms; too many items; no atom.
abbrev pub FormulaReading : TableEntries → List ℕ → Answer → Type 0
FormulaReading table text (Ok f) = RowSums table text f × IsFormula f
FormulaReading table text (Err (BadText place)) = IsBadPlace (IsRow IsCountTail) text place
FormulaReading table text (Err (UnknownSymbol place)) =
    (item : WrittenItem) × IsFirstUnknown table text place item × (element_of table item.symbol ≡ None)
FormulaReading table text (Err (UnknownIsotope place)) =
    (item : WrittenItem) × IsFirstUnknown table text place item × IsTrue (is_some (element_of table item.symbol))
FormulaReading table text (Err TooManyAtoms) =
    (sums : List (Item × ℕ)) × RowSums table text sums × IsTrue (has_many_atoms sums)
FormulaReading table text (Err TooManyElements) =
    (sums : List (Item × ℕ)) × RowSums table text sums × (has_many_atoms sums ≡ false) × IsTrue (has_many_items sums)
FormulaReading table text (Err Empty) = RowSums table text []
FormulaReading table text (Err (Memory e)) = ⊥
