-- The formulas that a number makes, of carbon, hydrogen, nitrogen and oxygen.
use Rattle.std.specs.Prelude.{ℕ, ◌+◌, ◌*◌, ◌%◌, List, [], ◌∷◌, map, codes}
use Rattle.std.specs.List.{range_with_len}
use Rattle.written_items.specs.declared.item.Item.{Item}
use Rattle.formula_text.specs.Formulas.{sum_of}
use Rattle.peak_generator.specs.Draws.{draw}

-- the item of an element
abbrev pub element : List ℕ → Item
element symbol = record { symbol = symbol; label = 0 }

-- counts of carbon, hydrogen, nitrogen and oxygen
abbrev pub element_counts : ℕ → ℕ → ℕ → ℕ → List (Item × ℕ)
element_counts carbon hydrogen nitrogen oxygen =
    (element (codes "C"), carbon) ∷ (element (codes "H"), hydrogen) ∷ (element (codes "N"), nitrogen)
    ∷ (element (codes "O"), oxygen) ∷ []

-- how many atoms of carbon a draw makes, and of hydrogen beside them
abbrev pub carbon_count : ℕ → ℕ
carbon_count e = 1 + e % 30

abbrev pub hydrogen_count : ℕ → ℕ → ℕ
hydrogen_count carbon f = carbon + f % (carbon + 3)

-- the counts that four draws make
abbrev pub counts_of_draws : ℕ → ℕ → ℕ → ℕ → List (Item × ℕ)
counts_of_draws e f g h =
    element_counts (carbon_count e) (hydrogen_count (carbon_count e) f) (g % 4) (h % 8)

-- the counts of the peak that stands behind so many others, each of which took four draws
abbrev pub made_counts : ℕ → ℕ → List (Item × ℕ)
made_counts number place =
    counts_of_draws (draw number (4 * place)) (draw number (4 * place + 1)) (draw number (4 * place + 2))
    (draw number (4 * place + 3))

-- the formula of this peak
abbrev pub made_formula : ℕ → ℕ → List (Item × ℕ)
made_formula number place = sum_of (made_counts number place)

-- the formulas of so many peaks, in the order made
unfoldable pub made_formulas : ℕ → ℕ → List (List (Item × ℕ))
made_formulas number count = map (made_formula number) (range_with_len 0 count)
