-- For proofs alone: what is gathered of lists, part by part.
use Rattle.std.specs.Prelude.{ℕ, ◌≡◌, ◌+◌, List, [], ◌∷◌, ◌++◌, length, map, flat_map, fold, slice_index_or}
use Rattle.sub_isotopologues.specs.Listings.{Listing, items_of}
use Rattle.multinomial_bounds.specs.declared.enclosure.Enclosure.{Enclosure}
use Rattle.layered_envelope.specs.declared.gathering.MemberRow.{MemberRow}
use Rattle.layered_envelope.specs.declared.gathering.Gathering.{Gathering}
use Rattle.layered_envelope.specs.ChosenPlaces.{bounds_at, above}
use Rattle.layered_envelope.specs.Walks.{lower, upper, los_of, his_of}

-- the counts of the items at places, behind those that are chosen before
abbrev pub counts_from : List Listing → List ℕ → List ℕ → List ℕ
counts_from [] chosen places = chosen
counts_from (l ∷ lists) chosen [] = chosen
counts_from (l ∷ lists) chosen (place ∷ places) =
    counts_from lists (chosen ++ slice_index_or (map (λ i. i.counts) (items_of l)) place []) places

-- the row of these bounds whose counts begin there
pub record IsRowBy (lo hi start : ℕ) (row : MemberRow) : Type 0 where
  pub there : row.start ≡ start
  pub lo_is : row.enclosure.lo ≡ lo
  pub hi_is : row.enclosure.hi ≡ hi

-- the rows of members whose counts and bounds these functions are
abbrev pub AreRowsBy : (List ℕ → List ℕ) → (List ℕ → ℕ) → (List ℕ → ℕ) → ℕ → List (List ℕ) → List MemberRow → Type 0
AreRowsBy counts lo hi start [] [] = Unit {0}
AreRowsBy counts lo hi start [] (row ∷ rows) = ⊥
AreRowsBy counts lo hi start (places ∷ members) [] = ⊥
AreRowsBy counts lo hi start (places ∷ members) (row ∷ rows) =
    IsRowBy (lo places) (hi places) start row × AreRowsBy counts lo hi (start + length (counts places)) members rows

-- the members were appended to counts and rows
pub record Gathers (counts : List ℕ → List ℕ) (lo hi : List ℕ → ℕ) (members : List (List ℕ))
    (old_counts : List ℕ) (old_rows : List MemberRow) (new_counts : List ℕ) (new_rows : List MemberRow) : Type 0 where
  pub more : List MemberRow
  pub rows_are : new_rows ≡ old_rows ++ more
  pub are_rows : AreRowsBy counts lo hi (length old_counts) members more
  pub counts_are : new_counts ≡ old_counts ++ flat_map counts members

-- These members of lists, behind what is chosen before, whose product has these bounds, were appended.
abbrev pub AreGathered : List Listing → ℕ → ℕ → List (List ℕ) → Gathering → Gathering → Type 0
AreGathered lists y x members old new =
    Gathers (counts_from lists old.chosen.items) (λ places. fold lower y (bounds_at (los_of lists) places))
    (λ places. fold upper x (bounds_at (his_of lists) places)) members old.counts.items old.rows.items new.counts.items
    new.rows.items

-- all members above a threshold were, and what is chosen is as it was
pub record GathersAll (threshold y x : ℕ) (lists : List Listing) (old new : Gathering) : Type 0 where
  pub gathered : AreGathered lists y x (above upper threshold x (his_of lists)) old new
  pub chosen : new.chosen.items ≡ old.chosen.items

-- one member was appended: what is chosen and the last counts, with this enclosure
pub record IsPushed (enclosure : Enclosure) (last : List ℕ) (old new : Gathering) : Type 0 where
  pub chosen : new.chosen.items ≡ old.chosen.items
  pub counts_are : new.counts.items ≡ old.counts.items ++ old.chosen.items ++ last
  pub rows_are : new.rows.items
      ≡ old.rows.items ++ record { enclosure = enclosure; start = length old.counts.items } ∷ []
