-- Formulas from which an enumeration can go on.
use Rattle.std.specs.Prelude.{ℕ, Bool, ◌&&◌, nat_le, List, IsTrue}
use Rattle.std.specs.List.{list_all, list_any, zip}
use Rattle.decompose.specs.declared.limits.Limit.{Limit}
use Rattle.decompose.specs.CountLists.{IsInBox}
use Rattle.written_items.specs.declared.item.Item.{Item}
use Rattle.written_items.specs.Items.{item_eq}
use Rattle.formula_text.specs.Formulas.{count_in}
use Rattle.alphabet_text.specs.declared.entries.AlphabetEntry.{AlphabetEntry}
use Rattle.candidates.specs.PeakFormulas.{counts_in, limits_of, items_of}

-- whether each item of a formula is one of these
abbrev pub has_only : List Item → List (Item × ℕ) → Bool
has_only items formula = list_all (λ p. list_any (λ item. item_eq item p.0) items) formula

-- whether the counts that a formula has of items are within their limits
abbrev pub fits : List Item → List Limit → List (Item × ℕ) → Bool
fits items limits formula =
    list_all (λ p. nat_le p.1.low (count_in formula p.0) && nat_le (count_in formula p.0) p.1.high) (zip items limits)

-- each item of a formula is one of the alphabet, and each count, also one of 0, is within its limits
pub record IsInAlphabetBox (alphabet : List AlphabetEntry) (formula : List (Item × ℕ)) : Type 0 where
  pub items : IsTrue (has_only (items_of alphabet) formula)
  pub counts : IsInBox (limits_of alphabet) (counts_in alphabet formula)
