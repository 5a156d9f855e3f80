-- Where a row of numbers first falls to or below numbers that rise by one from place to place.
use Rattle.std.specs.Prelude.{ℕ, ◌+◌, ◌<◌, ◌≤◌, List, length, slice_index}

-- the first place k of the row whose number is at most from + k
pub record IsFirstReached (row : List ℕ) (from k : ℕ) : Type 0 where
  pub within : k < length row
  pub reached : slice_index row k ≤ from + k
  pub none_before : (j : ℕ) → j < k → from + j < slice_index row j

-- For proofs alone: of so many numbers from a place on, this many come before the first that is reached, and all of
-- them where none is.
pub record FirstWithin (row : List ℕ) (from at number before : ℕ) : Type 0 where
  pub within : before ≤ number
  pub none_before : (j : ℕ) → j < before → from + (at + j) < slice_index row (at + j)
  pub reached : before < number → slice_index row (at + before) ≤ from + (at + before)
