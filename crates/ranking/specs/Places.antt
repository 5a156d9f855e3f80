-- Ranked candidates, and their places by rising score. Scores are in units of 10^-18; smaller is better.
use Rattle.std.specs.Prelude.{ℕ, ◌&&◌, ◌||◌, ◌==◌, nat_lt, Bool, List, map}
use Rattle.std.specs.List.{enumerate_from}
use Rattle.written_items.specs.declared.item.Item.{Item}
use Rattle.sorted_lists.specs.SortedLists.{sorted_by}

-- a candidate with its score, and the size and the bound of the cover of its ion
pub record RankedEntry : Type 0 where
  pub formula : List (Item × ℕ)
  pub score : ℕ
  pub size : ℕ
  pub bound : ℕ

-- whether a score and a place stand before others: by rising score, ties by rising place
abbrev pub stands_before : ℕ × ℕ → ℕ × ℕ → Bool
stands_before a b = nat_lt a.0 b.0 || ((a.0 == b.0) && nat_lt a.1 b.1)

-- the score of an entry, and its place
abbrev pub key_of : ℕ × RankedEntry → ℕ × ℕ
key_of placed = (placed.1.score, placed.0)

abbrev pub placed_before : ℕ × RankedEntry → ℕ × RankedEntry → Bool
placed_before a b = stands_before (key_of a) (key_of b)

-- entries, each with its place from 0 on, by rising score, ties by rising place
unfoldable pub ranking : List RankedEntry → List (ℕ × RankedEntry)
ranking found = sorted_by placed_before (enumerate_from 0 found)

-- the places of entries by rising score, ties by rising place
unfoldable pub places_of : List RankedEntry → List ℕ
places_of found = map (λ placed. placed.0) (ranking found)

-- the entries by rising score, ties in their order
unfoldable pub by_score : List RankedEntry → List RankedEntry
by_score found = map (λ placed. placed.1) (ranking found)

-- For a private contract: the score and the place of each entry.
abbrev pub keys_of : List RankedEntry → List (ℕ × ℕ)
keys_of found = map key_of (enumerate_from 0 found)
