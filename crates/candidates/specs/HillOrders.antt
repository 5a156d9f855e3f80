-- For proofs alone: the items of an alphabet in Hill order, for formulas with carbon and for those without.
use Rattle.std.specs.Prelude.{ℕ, suc, ◌-◌, ◌≡◌, Bool, not, nat_lt, List, [], ◌∷◌, map, filter, slice_index}
use Rattle.std.specs.Str.{bytes_eq}
use Rattle.written_items.specs.declared.item.Item.{Item}
use Rattle.formula_text.specs.HillOrder.{carbon_symbol}
use Rattle.formula_text.specs.Formulas.{sum_of}
use Rattle.candidates.specs.declared.hill.HillOrder.{HillOrder}

-- items with the numbers of their places, counted from a number
abbrev pub numbered_from : ℕ → List Item → List (Item × ℕ)
numbered_from n [] = []
numbered_from n (item ∷ items) = (item, n) ∷ numbered_from (suc n) items

abbrev pub numbered : List Item → List (Item × ℕ)
numbered items = numbered_from 1 items

abbrev pub is_carbon : Item → Bool
is_carbon item = bytes_eq item.symbol carbon_symbol

-- the items without carbon
abbrev pub others_of : List (Item × ℕ) → List (Item × ℕ)
others_of items = filter (λ p. not (is_carbon p.0)) items

-- both orders have the numbers of the items' places as counts
pub record IsHillOrder (items : List Item) (order : HillOrder) : Type 0 where
  pub with_carbon : order.with_carbon ≡ sum_of (numbered items)
  pub without : order.without ≡ sum_of (others_of (numbered items))

-- an entry of an order with the count of its item
abbrev pub counted : List ℕ → Item × ℕ → Item × ℕ
counted counts p = (p.0, slice_index counts (p.1 - 1))

-- the entries of an order with the counts of a list, of those that have an atom
abbrev pub with_counts : List ℕ → List (Item × ℕ) → List (Item × ℕ)
with_counts counts order = filter (λ p. nat_lt 0 p.1) (map (counted counts) order)
