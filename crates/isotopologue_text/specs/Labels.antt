-- For private contracts: isotopes that are printed by the texts of their items.
use Rattle.std.specs.Prelude.{ℕ, ◌≡◌, ◌==◌, ◌++◌, List, [], drop, map, flat_map, if◌then◌else◌}
use Rattle.std.specs.List.{zip}
use Rattle.written_items.specs.declared.item.Item.{Item}
use Rattle.written_items.specs.Items.{count_text, item_text}
use Rattle.isotopologue_text.specs.declared.label.Label.{Label}

-- the text that a label holds
abbrev pub label_text : Label → List ℕ
label_text label = drop label.start label.bytes

-- these are the texts of items
abbrev pub AreLabels : List Item → List Label → Type 0
AreLabels items labels = map label_text labels ≡ map item_text items

-- a text with a count is printed as an isotope is: nothing for 0, and the text alone for 1
abbrev pub labelled_text : List ℕ → ℕ → List ℕ
labelled_text label count = if count == 0 then [] else (label ++ count_text count)

-- texts with their counts, one after another
abbrev pub labels_text : List Label → List ℕ → List ℕ
labels_text labels counts = flat_map (λ p. labelled_text (label_text p.0) p.1) (zip labels counts)
