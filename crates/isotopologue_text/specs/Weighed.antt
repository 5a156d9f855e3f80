-- What the masses of the isotopologues of one formula are made of.
use Rattle.std.specs.Prelude.{ℕ, ◌+◌, List}
use Rattle.element_table.specs.declared.element.Isotope.{Isotope}
use Rattle.element_table.specs.Elements.{TableEntries}
use Rattle.written_items.specs.declared.item.Item.{Item}
use Rattle.formula_text.specs.Masses.{mass_of}
use Rattle.isotopologue_text.specs.Isotopologues.{labelled_items, formula_isotopes, counts_mass}

-- the isotopes that occur, and the mass of the formula's labelled atoms
pub record Weighed : Type 0 where
  pub isotopes : List Isotope
  pub labelled : ℕ

abbrev pub isotope_masses : TableEntries → List (Item × ℕ) → Weighed
isotope_masses table formula =
    record { isotopes = formula_isotopes table formula; labelled = mass_of table (labelled_items formula) }

-- the mass of an isotopologue
abbrev pub weighed_mass : Weighed → List ℕ → ℕ
weighed_mass weighed counts = counts_mass weighed.isotopes counts + weighed.labelled
