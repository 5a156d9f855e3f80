-- The mass of a formula, in 10^-12 Da.
use Rattle.std.specs.Prelude.{ℕ, ◌*◌, ◌==◌, List, sum_by, All, IsTrue, is_some, Option, Some, None, if◌then◌else◌}
use Rattle.element_table.specs.declared.element.Isotope.{Isotope}
use Rattle.element_table.specs.Elements.{TableEntries, ElementEntry, element_of, isotope_of, reference_isotope}
use Rattle.written_items.specs.declared.item.Item.{Item}

-- of an element the isotope of an item's atoms: the labelled one, or the reference isotope
abbrev pub isotope_in : ElementEntry → ℕ → Option Isotope
isotope_in element label =
    if label == 0 then Some (reference_isotope element)
    else isotope_of element.isotopes label

-- the same of an element that may be missing
abbrev pub isotope_if : Option ElementEntry → ℕ → Option Isotope
isotope_if None label = None
isotope_if (Some element) label = isotope_in element label

-- the isotope of an item's atoms, if the table has it
abbrev pub item_isotope : TableEntries → Item → Option Isotope
item_isotope table item = isotope_if (element_of table item.symbol) item.label

-- the table has the element of each item, and the isotope of each labelled one
abbrev pub HasItems : TableEntries → List (Item × ℕ) → Type 0
HasItems table items = All (λ p. IsTrue (is_some (item_isotope table p.0))) items

-- an isotope's mass, and 0 where there is none
abbrev pub isotope_mass : Option Isotope → ℕ
isotope_mass None = 0
isotope_mass (Some isotope) = isotope.mass

-- the mass of an atom of an item
abbrev pub item_mass : TableEntries → Item → ℕ
item_mass table item = isotope_mass (item_isotope table item)

-- the sum of count times mass over the items
abbrev pub mass_of : TableEntries → List (Item × ℕ) → ℕ
mass_of table items = sum_by (λ p. p.1 * item_mass table p.0) items
