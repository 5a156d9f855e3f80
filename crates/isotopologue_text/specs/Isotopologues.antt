-- The isotopologues of a formula: their elements, their texts and their masses.
use Rattle.std.specs.Prelude.{ℕ, ◌+◌, ◌*◌, ◌==◌, ◌≡◌, ◌≤◌, nat_lt, Bool, List, [], ◌∷◌, ◌++◌, map, filter, flat_map}
use Rattle.std.specs.Prelude.{sum_by, sum, length, take, if◌then◌else◌, Option, Some, None}
use Rattle.std.specs.List.{zip, concat, list_any}
use Rattle.multinomial_bounds.specs.Isotopologue.{Element, IsIsotopologue}
use Rattle.element_table.specs.declared.element.Isotope.{Isotope}
use Rattle.element_table.specs.Elements.{TableEntries, ElementEntry, element_of}
use Rattle.written_items.specs.declared.item.Item.{Item}
use Rattle.formula_text.specs.Masses.{mass_of}
use Rattle.written_items.specs.Items.{item_text, count_text}

-- of isotopes those of positive weight, in their order
abbrev pub isotopes_that_occur : List Isotope → List Isotope
isotopes_that_occur isotopes = filter (λ i. nat_lt 0 i.weight) isotopes

-- the same of an element that may be missing
abbrev pub isotopes_if : Option ElementEntry → List Isotope
isotopes_if None = []
isotopes_if (Some element) = isotopes_that_occur element.isotopes

-- the isotopes of an item's element that occur, by rising mass number
abbrev pub isotopes_of : TableEntries → Item → List Isotope
isotopes_of table item = isotopes_if (element_of table item.symbol)

-- an item without a label
abbrev pub is_plain : Item → Bool
is_plain item = item.label == 0

-- the items without a label, and those with one
abbrev pub plain_items : List (Item × ℕ) → List (Item × ℕ)
plain_items formula = filter (λ p. is_plain p.0) formula

abbrev pub labelled_items : List (Item × ℕ) → List (Item × ℕ)
labelled_items formula = filter (λ p. nat_lt 0 p.0.label) formula

-- an element of a formula: the weights of its isotopes that occur, and its atoms
abbrev pub element_in : TableEntries → Item × ℕ → Element
element_in table part = record { weights = map (λ i. i.weight) (isotopes_of table part.0); atoms = part.1 }

-- the elements whose isotopes an isotopologue counts: those of the items without a label
abbrev pub formula_elements : TableEntries → List (Item × ℕ) → List Element
formula_elements table formula = map (element_in table) (plain_items formula)

-- the isotopes that an isotopologue counts: those of each of these elements, one element after another
abbrev pub formula_isotopes : TableEntries → List (Item × ℕ) → List Isotope
formula_isotopes table formula = flat_map (λ p. isotopes_of table p.0) (plain_items formula)

-- an isotope of an item's element, as a labelled item
abbrev pub isotope_item : Item → Isotope → Item
isotope_item item isotope = record { symbol = item.symbol; label = isotope.number }

-- the same isotopes as labelled items
abbrev pub isotope_items : TableEntries → List (Item × ℕ) → List Item
isotope_items table formula = flat_map (λ p. map (isotope_item p.0) (isotopes_of table p.0)) (plain_items formula)

-- the counts of an isotopologue of the formula, one element after another: a count for each isotope that occurs,
-- and those of an element sum to its atoms
pub record IsIsotopologueOf (table : TableEntries) (formula : List (Item × ℕ)) (counts : List ℕ) : Type 0 where
  pub by_element : List (List ℕ)
  pub isotopologue : IsIsotopologue (formula_elements table formula) by_element
  pub joined : concat by_element ≡ counts

-- counts begin with those of an element that has so many isotopes and so many atoms
pub record BeginsWithCounts (isotopes atoms : ℕ) (counts : List ℕ) : Type 0 where
  pub enough : isotopes ≤ length counts
  pub atoms_agree : sum (take isotopes counts) ≡ atoms

-- an isotope with its count, as `[13C]5`: nothing for 0, and the isotope alone for 1
abbrev pub isotope_text : Item → ℕ → List ℕ
isotope_text item count = if count == 0 then [] else (item_text item ++ count_text count)

-- isotopes with their counts, one after another
abbrev pub counts_text : List Item → List ℕ → List ℕ
counts_text items counts = flat_map (λ p. isotope_text p.0 p.1) (zip items counts)

-- the text `-`
abbrev pub dash : List ℕ
dash = 45 ∷ []

-- the text of an isotopologue: its isotopes with their counts, and `-` where every item of the formula has a label
abbrev pub isotopologue_text_of : TableEntries → List (Item × ℕ) → List ℕ → List ℕ
isotopologue_text_of table formula counts =
    if list_any (λ p. is_plain p.0) formula then counts_text (isotope_items table formula) counts else dash

-- these are the counts of an isotopologue of the formula, and this is its text
pub record HasText (table : TableEntries) (formula : List (Item × ℕ)) (text counts : List ℕ) : Type 0 where
  pub isotopologue : IsIsotopologueOf table formula counts
  pub text_is : isotopologue_text_of table formula counts ≡ text

-- the counts of the isotopologue that has this text, none where no isotopologue has it
abbrev pub IsOfText : TableEntries → List (Item × ℕ) → List ℕ → Option (List ℕ) → Type 0
IsOfText table formula text None = (counts : List ℕ) → ¬ HasText table formula text counts
IsOfText table formula text (Some counts) = HasText table formula text counts

-- the sum of count times mass over isotopes
abbrev pub counts_mass : List Isotope → List ℕ → ℕ
counts_mass isotopes counts = sum_by (λ p. p.1 * p.0.mass) (zip isotopes counts)

-- the mass of an isotopologue in 10^-12 Da: of its isotopes, and of the formula's labelled atoms
abbrev pub isotopologue_mass_of : TableEntries → List (Item × ℕ) → List ℕ → ℕ
isotopologue_mass_of table formula counts =
    counts_mass (formula_isotopes table formula) counts + mass_of table (labelled_items formula)
