-- Formulas, which are lists of items with the numbers of their atoms, and the sum of such counts.
use Rattle.std.specs.Prelude.{ℕ, ◌+◌, ◌^◌, ◌≡◌, ◌≤◌, ◌<◌, Bool, ◌&&◌, ◌||◌, nat_lt, List, [], ◌∷◌, length}
use Rattle.std.specs.Prelude.{fold, filter, sum_by, All, IsTrue, if◌then◌else◌, Option, Some, None, Result, Ok, Err}
use Rattle.std.specs.List.{list_any}
use Rattle.std.specs.FinMap.{put, is_sorted}
use Rattle.std.specs.Str.{bytes_eq}
use Rattle.element_table.specs.SymbolText.{is_symbol}
use Rattle.written_items.specs.declared.item.Item.{Item}
use Rattle.formula_text.specs.declared.fault.PartsFault.{PartsFault}
use Rattle.formula_text.specs.declared.fault.PartsFault.TheVariants.{TooManyAtoms, TooManyElements}
use Rattle.written_items.specs.Items.{item_eq}
use Rattle.formula_text.specs.Limits.{max_atoms_of_item, max_atoms, max_items}
use Rattle.formula_text.specs.HillOrder.{carbon_symbol, hill_cmp}

-- the sum of the counts that a list gives an item
abbrev pub count_in : List (Item × ℕ) → Item → ℕ
count_in parts item = sum_by (λ p. if item_eq item p.0 then p.1 else 0) parts

-- how many atoms a list has in all
abbrev pub atoms_of : List (Item × ℕ) → ℕ
atoms_of parts = sum_by (λ p. p.1) parts

-- whether an atom of carbon is there, labelled or not
abbrev pub has_carbon : List (Item × ℕ) → Bool
has_carbon parts = list_any (λ p. bytes_eq p.0.symbol carbon_symbol && nat_lt 0 p.1) parts

-- the items are in strict Hill order, so that none stands twice
abbrev pub is_in_hill_order : List (Item × ℕ) → Bool
is_in_hill_order items = is_sorted (hill_cmp (has_carbon items)) items

-- an item has a symbol, and a label of at most 2^32 - 1
pub record IsItem (item : Item) : Type 0 where
  pub symbol : IsTrue (is_symbol item.symbol)
  pub label : item.label < 2 ^ 32

-- the counts of a formula, or of a part of one, which may have no atom: each item with an atom
-- once, in Hill order, at most 10,000 atoms of an item, 20,000 in all and 20 items
pub record IsParts (items : List (Item × ℕ)) : Type 0 where
  pub ordered : IsTrue (is_in_hill_order items)
  pub are_items : All (λ p. IsItem p.0) items
  pub positive : All (λ p. 0 < p.1) items
  pub few_of_each : All (λ p. p.1 ≤ max_atoms_of_item) items
  pub few_atoms : atoms_of items ≤ max_atoms
  pub few_items : length items ≤ max_items

-- the counts of a formula, which has an atom
pub record IsFormula (items : List (Item × ℕ)) : Type 0 where
  pub parts : IsParts items
  pub some_atom : 0 < length items

-- items in Hill order with the atoms of one more part, put in its item's place
abbrev pub with_part : Bool → List (Item × ℕ) → Item × ℕ → List (Item × ℕ)
with_part carbon items part = put (hill_cmp carbon) part.0 (count_in items part.0 + part.1) items

-- equal items added up, without those that have no atom, in Hill order
abbrev pub sum_of : List (Item × ℕ) → List (Item × ℕ)
sum_of parts = fold (with_part (has_carbon parts)) [] (filter (λ p. nat_lt 0 p.1) parts)

-- more than 10,000 atoms of an item or 20,000 in all
abbrev pub has_many_atoms : List (Item × ℕ) → Bool
has_many_atoms items = nat_lt max_atoms (atoms_of items) || list_any (λ p. nat_lt max_atoms_of_item p.1) items

-- more than 20 items
abbrev pub has_many_items : List (Item × ℕ) → Bool
has_many_items items = nat_lt max_items (length items)

-- a sum of parts, or the first limit that it passes
abbrev pub within_limits : List (Item × ℕ) → Result (List (Item × ℕ)) PartsFault
within_limits items =
    if has_many_atoms items then Err TooManyAtoms else (
    if has_many_items items then Err TooManyElements else Ok items)

-- the sum of the parts, or the first limit that it passes
abbrev pub parts_of : List (Item × ℕ) → Result (List (Item × ℕ)) PartsFault
parts_of parts = within_limits (sum_of parts)

-- a sum that is a formula: none where a limit is passed or there is no atom
abbrev pub formula_in : Result (List (Item × ℕ)) PartsFault → Option (List (Item × ℕ))
formula_in (Ok (p ∷ ps)) = Some (p ∷ ps)
formula_in (Ok []) = None
formula_in (Err e) = None

-- the formula that is the sum of the parts: none where a limit is passed or there is no atom
abbrev pub formula_of : List (Item × ℕ) → Option (List (Item × ℕ))
formula_of parts = formula_in (parts_of parts)

-- the count of each item is the sum of the parts' counts of it
abbrev pub SumsUp : List (Item × ℕ) → List (Item × ℕ) → Type 0
SumsUp parts f = (item : Item) → count_in f item ≡ count_in parts item

-- the sums of the parts' counts: each item that has an atom once, in Hill order, with the sum of its counts
pub record AreSums (parts sums : List (Item × ℕ)) : Type 0 where
  pub ordered : IsTrue (is_in_hill_order sums)
  pub positive : All (λ p. 0 < p.1) sums
  pub counts : SumsUp parts sums

-- a formula whose counts are the sums of the parts' counts
pub record IsSumOf (parts f : List (Item × ℕ)) : Type 0 where
  pub formula : IsFormula f
  pub counts : SumsUp parts f
