-- What the isotopologues of one formula are printed with.
use Rattle.std.specs.Prelude.{ℕ, ◌+◌, Bool, List, if◌then◌else◌}
use Rattle.std.specs.List.{list_any}
use Rattle.element_table.specs.declared.element.Isotope.{Isotope}
use Rattle.element_table.specs.Elements.{TableEntries}
use Rattle.written_items.specs.declared.item.Item.{Item}
use Rattle.formula_text.specs.Masses.{mass_of}
use Rattle.isotopologue_text.specs.Isotopologues.{is_plain, labelled_items, isotope_items, formula_isotopes, counts_text, counts_mass, dash}

-- the isotopes that occur, as labelled items and with their masses, the mass of the formula's labelled atoms, and
-- whether it has others
pub record Printed : Type 0 where
  pub items : List Item
  pub isotopes : List Isotope
  pub labelled : ℕ
  pub has_plain : Bool

abbrev pub printed_isotopes : TableEntries → List (Item × ℕ) → Printed
printed_isotopes table formula =
    record {
      items = isotope_items table formula;
      isotopes = formula_isotopes table formula;
      labelled = mass_of table (labelled_items formula);
      has_plain = list_any (λ p. is_plain p.0) formula;
    }

-- the text and the mass of an isotopologue
abbrev pub printed_text : Printed → List ℕ → List ℕ
printed_text printed counts = if printed.has_plain then counts_text printed.items counts else dash

abbrev pub printed_mass : Printed → List ℕ → ℕ
printed_mass printed counts = counts_mass printed.isotopes counts + printed.labelled
