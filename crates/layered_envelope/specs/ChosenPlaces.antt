-- For proofs alone: one place chosen in each of some lists of bounds, and the product of the bounds there. The factor
-- of a product is multiplied on by f, which rounds. The lists fall, so that their first bounds are the greatest.
use Rattle.std.specs.Prelude.{ℕ, ◌+◌, ◌-◌, ◌<◌, ◌≤◌, nat_lt, if◌then◌else◌, List, [], ◌∷◌, ◌++◌, map, length, flat_map, slice_index}
use Rattle.std.specs.List.{range_with_len}

-- the bounds at the places, one of each list
abbrev pub bounds_at : List (List ℕ) → List ℕ → List ℕ
bounds_at [] places = []
bounds_at (list ∷ lists) [] = []
bounds_at (list ∷ lists) (place ∷ places) = slice_index list place ∷ bounds_at lists places

-- one place in each list
abbrev pub ArePlaces : List (List ℕ) → List ℕ → Type 0
ArePlaces [] [] = Unit {0}
ArePlaces [] (place ∷ places) = ⊥
ArePlaces (list ∷ lists) [] = ⊥
ArePlaces (list ∷ lists) (place ∷ places) = (place < length list) × ArePlaces lists places

-- the first bound of each list
abbrev pub firsts : List (List ℕ) → List ℕ
firsts lists = map (λ list. slice_index list 0) lists

-- a list whose bounds fall, with at least one
pub record Falls (list : List ℕ) : Type 0 where
  pub some : 0 < length list
  pub falls : (i j : ℕ) → i ≤ j → j < length list → slice_index list j ≤ slice_index list i

abbrev pub AllFall : List (List ℕ) → Type 0
AllFall [] = Unit {0}
AllFall (list ∷ lists) = Falls list × AllFall lists

-- those choices, in lexicographic order, whose product with a factor is above a threshold
abbrev pub above : (ℕ → ℕ → ℕ) → ℕ → ℕ → List (List ℕ) → List (List ℕ)
above f threshold factor [] = if nat_lt threshold factor then [] ∷ [] else []
above f threshold factor (list ∷ lists) =
    flat_map (λ place. map (λ places. place ∷ places) (above f threshold (f factor (slice_index list place)) lists))
    (range_with_len 0 (length list))

-- of them those with a place of the first list from `from` on
abbrev pub above_from : (ℕ → ℕ → ℕ) → ℕ → ℕ → List ℕ → List (List ℕ) → ℕ → List (List ℕ)
above_from f threshold factor list lists from =
    flat_map (λ place. map (λ places. place ∷ places) (above f threshold (f factor (slice_index list place)) lists))
    (range_with_len from (length list - from))

-- of them those that come after these places
abbrev pub above_after : (ℕ → ℕ → ℕ) → ℕ → ℕ → List (List ℕ) → List ℕ → List (List ℕ)
above_after f threshold factor [] places = []
above_after f threshold factor (list ∷ lists) [] = []
above_after f threshold factor (list ∷ lists) (place ∷ places) =
    map (λ more. place ∷ more) (above_after f threshold (f factor (slice_index list place)) lists places)
    ++ above_from f threshold factor list lists (place + 1)
