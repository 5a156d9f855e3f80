-- Alphabets: entries by falling mass, those of one mass by the bytes of their printed items. Masses are in 10^-12 Da.
use Rattle.std.specs.Prelude.{ℕ, ◌≡◌, ◌≢◌, ◌≤◌, Bool, ◌&&◌, ◌||◌, ◌==◌, nat_lt, List, [], ◌∷◌, length, is_some, IsTrue}
use Rattle.std.specs.Prelude.{All, AllPairs}
use Rattle.std.specs.Ordering.{nat_cmp, is_lt}
use Rattle.std.specs.Cmp.Lexicographic.{slice_cmp}
use Rattle.decompose.specs.declared.limits.Limit.{Limit}
use Rattle.decompose.specs.CountLists.{IsLimit}
use Rattle.element_table.specs.Limits.{min_isotope_mass, max_isotope_mass}
use Rattle.element_table.specs.Elements.{TableEntries}
use Rattle.written_items.specs.declared.item.Item.{Item}
use Rattle.written_items.specs.Items.{item_text}
use Rattle.alphabet_text.specs.declared.entries.AlphabetEntry.{AlphabetEntry}
use Rattle.formula_text.specs.Masses.{item_isotope, item_mass}
use Rattle.alphabet_text.specs.declared.entries.TheConstants.{MAX_ENTRIES}

-- whether an entry stands before another: the greater mass first, and at one mass by the bytes of the printed items
abbrev pub stands_before : AlphabetEntry → AlphabetEntry → Bool
stands_before a b =
    nat_lt b.mass a.mass || ((a.mass == b.mass) && is_lt (slice_cmp nat_cmp (item_text a.item) (item_text b.item)))

-- a mass of 0.5 to 400 Da
pub record IsMassOfIsotope (mass : ℕ) : Type 0 where
  pub from : min_isotope_mass ≤ mass
  pub to : mass ≤ max_isotope_mass

-- entries of different items, each of 0.5 to 400 Da and with a limit
pub record AreEntries (entries : List AlphabetEntry) : Type 0 where
  pub masses : All (λ e. IsMassOfIsotope e.mass) entries
  pub limits : All (λ e. IsLimit e.limit) entries
  pub distinct : AllPairs (λ a b. a.item ≢ b.item) entries

-- an alphabet: 1 to 20 such entries, none of a greater mass than those before it
pub record IsAlphabet (entries : List AlphabetEntry) : Type 0 where
  pub some : 1 ≤ length entries
  pub few : length entries ≤ MAX_ENTRIES
  pub sound : AreEntries entries
  pub falling : AllPairs (λ a b. b.mass ≤ a.mass) entries

-- an entry of a table: the table has the item's element, and the isotope of a labelled one, and the mass is of it
pub record IsEntryOf (table : TableEntries) (entry : AlphabetEntry) : Type 0 where
  pub known : IsTrue (is_some (item_isotope table entry.item))
  pub mass : entry.mass ≡ item_mass table entry.item

-- the entries that lists of items, of masses and of limits make, one beside the other
abbrev pub entries_of : List Item → List ℕ → List Limit → List AlphabetEntry
entries_of (item ∷ items) (mass ∷ masses) (limit ∷ limits) =
    record { item = item; mass = mass; limit = limit } ∷ entries_of items masses limits
entries_of items masses limits = []

-- the three lists have one length, and make an alphabet
pub record HoldsAlphabet (items : List Item) (masses : List ℕ) (limits : List Limit) : Type 0 where
  pub one_mass_each : length masses ≡ length items
  pub one_limit_each : length limits ≡ length items
  pub alphabet : IsAlphabet (entries_of items masses limits)
