-- Limits on counts, the box of all count lists within them, and the lexicographic order of count lists.
use Rattle.std.specs.Prelude.{ℕ, ◌-◌, ◌+◌, ◌≤◌, Bool, true, not, List, [], ◌∷◌, map, Option, Some, None}
use Rattle.std.specs.List.{flat_map, range_with_len}
use Rattle.std.specs.Ordering.{is_lt, nat_cmp}
use Rattle.std.specs.Cmp.Lexicographic.{slice_cmp}
use Rattle.decompose.specs.declared.limits.Limit.{Limit}
use Rattle.decompose.specs.declared.limits.TheConstants.{MAX_COUNT}

-- a limit of a symbol: it goes from low to high, which is at most 10,000 atoms
pub record IsLimit (limit : Limit) : Type 0 where
  pub ordered : limit.low ≤ limit.high
  pub bounded : limit.high ≤ MAX_COUNT

-- a count list of the box: it has one count for each limit, and each count is within its limit
abbrev pub IsInBox : List Limit → List ℕ → Type 0
IsInBox [] [] = Unit {0}
IsInBox [] (c ∷ cs) = ⊥
IsInBox (l ∷ ls) [] = ⊥
IsInBox (l ∷ ls) (c ∷ cs) = (l.low ≤ c) × (c ≤ l.high) × IsInBox ls cs

-- the counts that a limit allows, in rising order
abbrev pub counts_within : Limit → List ℕ
counts_within l = range_with_len l.low (l.high + 1 - l.low)

-- the box: all count lists within the limits, in lexicographic order, small counts first
unfoldable pub box_of : List Limit → List (List ℕ)
box_of [] = [] ∷ []
box_of (l ∷ ls) = flat_map (λ c. map (λ cs. c ∷ cs) (box_of ls)) (counts_within l)

-- whether the count list x comes after c in lexicographic order
abbrev pub comes_after : List ℕ → List ℕ → Bool
comes_after c x = is_lt (slice_cmp nat_cmp c x)

-- whether a count list comes after another, if there is one
abbrev pub follows : Option (List ℕ) → List ℕ → Bool
follows None counts = true
follows (Some c) counts = comes_after c counts

-- whether a count list does not come after another, if there is one
abbrev pub is_up_to : Option (List ℕ) → List ℕ → Bool
is_up_to None counts = true
is_up_to (Some c) counts = not (comes_after c counts)
