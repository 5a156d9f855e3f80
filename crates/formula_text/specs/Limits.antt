-- The limits of a formula, each by its name.
use Rattle.std.specs.Prelude.{ℕ}
use Rattle.formula_text.specs.declared.limits.TheConstants.{MAX_ATOMS, MAX_ATOMS_OF_ITEM, MAX_ITEMS}

-- the greatest number of atoms of an item
abbrev pub max_atoms_of_item : ℕ
max_atoms_of_item = MAX_ATOMS_OF_ITEM

-- the greatest number of atoms in all
abbrev pub max_atoms : ℕ
max_atoms = MAX_ATOMS

-- the greatest number of items that have an atom
abbrev pub max_items : ℕ
max_items = MAX_ITEMS
