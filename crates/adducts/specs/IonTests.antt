-- For proofs alone: the tests whether the ion's counts, of which none is below 0, are a formula within the limits.
use Rattle.std.specs.Prelude.{ℕ, ◌+◌, ◌-◌, ◌*◌, Bool, ◌&&◌, ◌||◌, not, nat_le, nat_lt, List, ◌++◌, length, map, filter}
use Rattle.std.specs.List.{list_all, find}
use Rattle.std.specs.Option.{option_map_or}
use Rattle.written_items.specs.Items.{item_eq}
use Rattle.written_items.specs.declared.item.Item.{Item}
use Rattle.formula_text.specs.Formulas.{atoms_of, count_in}
use Rattle.formula_text.specs.Limits.{max_atoms_of_item, max_atoms, max_items}
use Rattle.adducts.specs.Adducts.{AdductValue}
use Rattle.adducts.specs.Ions.{has_item}
use Rattle.adducts.specs.AdductReader.{capped}

-- how many atoms of an item the ion has, of which the formula has this count
abbrev pub entry_count : AdductValue → Item × ℕ → ℕ
entry_count adduct p = adduct.copies * p.1 + count_in adduct.added p.0 - count_in adduct.lost p.0

-- the same of an item that the formula doesn't have
abbrev pub other_count : AdductValue → Item × ℕ → ℕ
other_count adduct p = entry_count adduct (p.0, 0)

-- the count that is found of an item
abbrev pub found_count : List (Item × ℕ) → Item → ℕ
found_count counts item = option_map_or (λ p. p.1) (find (λ p. item_eq p.0 item) counts) 0

-- whether no more atoms are lost than are found
abbrev pub finds_what_is_lost : AdductValue → List (Item × ℕ) → Bool
finds_what_is_lost adduct counts =
    list_all (λ p. nat_le p.1 (adduct.copies * found_count counts p.0 + count_in adduct.added p.0)) adduct.lost

-- the ion's counts as they are kept, up to 2^32 - 1
abbrev pub kept_counts : AdductValue → List (Item × ℕ) → List (Item × ℕ)
kept_counts adduct counts =
    map (λ p. (p.0, capped (entry_count adduct p))) counts
    ++ map (λ p. (p.0, capped (other_count adduct p))) (filter (λ p. not (has_item counts p.0)) adduct.added)

abbrev pub has_few_atoms : AdductValue → List (Item × ℕ) → Bool
has_few_atoms adduct counts =
    nat_le (adduct.copies * atoms_of counts + atoms_of adduct.added) (max_atoms + atoms_of adduct.lost)

abbrev pub has_few_of_own : AdductValue → List (Item × ℕ) → Bool
has_few_of_own adduct counts = list_all (λ p. nat_le (entry_count adduct p) max_atoms_of_item) counts

abbrev pub has_few_of_others : AdductValue → List (Item × ℕ) → Bool
has_few_of_others adduct counts =
    list_all (λ p. has_item counts p.0 || nat_le (other_count adduct p) max_atoms_of_item) adduct.added

abbrev pub has_few_of_each : AdductValue → List (Item × ℕ) → Bool
has_few_of_each adduct counts = has_few_of_own adduct counts && has_few_of_others adduct counts

abbrev pub own_items : AdductValue → List (Item × ℕ) → ℕ
own_items adduct counts = length (filter (λ p. nat_lt 0 (entry_count adduct p)) counts)

abbrev pub other_items : AdductValue → List (Item × ℕ) → ℕ
other_items adduct counts =
    length (filter (λ p. not (has_item counts p.0) && nat_lt 0 (other_count adduct p)) adduct.added)

abbrev pub item_count : AdductValue → List (Item × ℕ) → ℕ
item_count adduct counts = own_items adduct counts + other_items adduct counts

abbrev pub has_few_items : AdductValue → List (Item × ℕ) → Bool
has_few_items adduct counts = nat_le 1 (item_count adduct counts) && nat_le (item_count adduct counts) max_items

abbrev pub are_within_limits : AdductValue → List (Item × ℕ) → Bool
are_within_limits adduct counts =
    has_few_atoms adduct counts && has_few_of_each adduct counts && has_few_items adduct counts
