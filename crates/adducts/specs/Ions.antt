-- The ion of a formula and an adduct, and its mass. Masses are in 10^-12 Da.
use Rattle.std.specs.Prelude.{ℕ, ℤ, pos, ◌+◌, ◌-◌, ◌*◌, ◌≡◌, ◌≢◌, ◌≤◌, ◌-ℤ◌, ◌*ℤ◌, Bool, not, nat_le, List, ◌++◌}
use Rattle.std.specs.Prelude.{length, map, All, AllPairs, filter, if◌then◌else◌, Option, Some, None, option_map}
use Rattle.std.specs.List.{list_all, list_any}
use Rattle.element_table.specs.Elements.{TableEntries}
use Rattle.written_items.specs.declared.item.Item.{Item}
use Rattle.written_items.specs.Items.{item_eq}
use Rattle.formula_text.specs.Formulas.{IsFormula, IsItem, count_in, formula_of}
use Rattle.formula_text.specs.Limits.{max_atoms_of_item, max_items}
use Rattle.formula_text.specs.Masses.{mass_of}
use Rattle.adducts.specs.Adducts.{AdductValue}

-- how many atoms of an item the copies of a formula and the added atoms have
abbrev pub gained : AdductValue → List (Item × ℕ) → Item → ℕ
gained adduct formula item = adduct.copies * count_in formula item + count_in adduct.added item

-- The ion: a formula within the limits whose count of each item is that of the copies and the added atoms, less
-- the count of the lost ones, of which there are no more than that.
pub record IsIonOf (adduct : AdductValue) (formula ion : List (Item × ℕ)) : Type 0 where
  pub is_formula : IsFormula ion
  pub counts : (item : Item) → count_in ion item + count_in adduct.lost item ≡ gained adduct formula item

-- whether no more atoms are lost than there are
abbrev pub has_what_is_lost : AdductValue → List (Item × ℕ) → Bool
has_what_is_lost adduct formula = list_all (λ p. nat_le p.1 (gained adduct formula p.0)) adduct.lost

-- how many atoms of an item the ion has
abbrev pub ion_count : AdductValue → List (Item × ℕ) → Item → ℕ
ion_count adduct formula item = gained adduct formula item - count_in adduct.lost item

-- whether an item stands in a list
abbrev pub has_item : List (Item × ℕ) → Item → Bool
has_item parts item = list_any (λ p. item_eq p.0 item) parts

-- Counts of items: at most 20 items, none twice, each with at most 10,000 atoms, or none. A formula is such, and the
-- count list of an alphabet's items is.
pub record AreCounts (counts : List (Item × ℕ)) : Type 0 where
  pub few : length counts ≤ max_items
  pub items : All (λ p. IsItem p.0) counts
  pub few_of_each : All (λ p. p.1 ≤ max_atoms_of_item) counts
  pub distinct : AllPairs (λ p q. p.0 ≢ q.0) counts

-- the items of a formula, each with the atoms that the ion has of it
abbrev pub own_counts : AdductValue → List (Item × ℕ) → List (Item × ℕ)
own_counts adduct formula = map (λ p. (p.0, ion_count adduct formula p.0)) formula

-- the items of a formula, and behind them the others that are added, each with the atoms that the ion has of it
abbrev pub ion_counts : AdductValue → List (Item × ℕ) → List (Item × ℕ)
ion_counts adduct formula =
    own_counts adduct formula
    ++ map (λ p. (p.0, ion_count adduct formula p.0)) (filter (λ p. not (has_item formula p.0)) adduct.added)

-- the one ion that IsIonOf allows, if there is one; the layers above compute with it
unfoldable pub ion_of : AdductValue → List (Item × ℕ) → Option (List (Item × ℕ))
ion_of adduct formula =
    if has_what_is_lost adduct formula then formula_of (ion_counts adduct formula) else None

-- the mass of an ion with these atoms: that of the atoms, less that of as many electrons as its charge says
abbrev pub mass_of_ion : TableEntries → AdductValue → List (Item × ℕ) → ℤ
mass_of_ion table adduct ion = pos (mass_of table ion) -ℤ (adduct.charge *ℤ pos table.electron)

-- the mass of the ion of a formula, where the ion is defined
abbrev pub ion_mass : TableEntries → AdductValue → List (Item × ℕ) → Option ℤ
ion_mass table adduct formula = option_map (mass_of_ion table adduct) (ion_of adduct formula)

-- what an adduct adds to the mass of the copies: the mass added, less the mass lost, less charge times electron
abbrev pub shift_of : TableEntries → AdductValue → ℤ
shift_of table adduct =
    (pos (mass_of table adduct.added) -ℤ pos (mass_of table adduct.lost)) -ℤ (adduct.charge *ℤ pos table.electron)
