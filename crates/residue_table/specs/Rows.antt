-- For proofs alone: the row of a level, which has an entry for each residue of the modulus. An entry is the least
-- number of its residue that the level reaches. Where there is none it is one that no number asked for comes up to.
use Rattle.std.specs.Prelude.{◌≡◌, ℕ, ◌+◌, ◌-◌, ◌*◌, ◌/◌, ◌%◌, ◌^◌, ◌<◌, ◌≤◌, List, length, drop, slice_index, slice_get, Some}
use Rattle.residue_table.specs.declared.rows.Row.{Row}
use Rattle.residue_table.specs.declared.spans.Spans.{Spans}
use Rattle.residue_table.specs.declared.rows.TheConstants.{UNREACHED, RUN}
use Rattle.residue_table.specs.Sums.{AreScaled, IsSum, modulus_of}

-- a number is at least the entry of its residue
abbrev pub IsReached : List ℕ → ℕ → Type 0
IsReached entries value = slice_index entries (value % length entries) ≤ value

-- no entry is above that of an unreached residue
abbrev pub AreLimited : List ℕ → Type 0
AreLimited entries = (k : ℕ) → slice_index entries k ≤ UNREACHED

-- what the row says is reached is a sum of the masses
abbrev pub IsSound : List ℕ → List ℕ → Type 0
IsSound masses entries = (value : ℕ) → value < UNREACHED → IsReached entries value → IsSum masses value

-- each sum of the masses is reached
abbrev pub IsComplete : List ℕ → List ℕ → Type 0
IsComplete masses entries = (value : ℕ) → IsSum masses value → IsReached entries value

-- the row of these masses
pub record IsRow (masses entries : List ℕ) : Type 0 where
  pub limited : AreLimited entries
  pub sound : IsSound masses entries
  pub complete : IsComplete masses entries

-- the minimum of each run of entries is at most each of them
abbrev pub BoundsRuns : List ℕ → List ℕ → Type 0
BoundsRuns minima entries = (k : ℕ) → k < length entries → slice_index minima (k / RUN) ≤ slice_index entries k

-- the least of the entries of a part of a row, as far as it goes
pub record IsLeastOf (entries : List ℕ) (start stop least : ℕ) : Type 0 where
  pub at_most : (k : ℕ) → start ≤ k → k < stop → k < length entries → least ≤ slice_index entries k
  pub place : ℕ
  pub from_start : start ≤ place
  pub to_stop : place < stop
  pub within : place < length entries
  pub at_least : slice_index entries place ≤ least

-- for each run the minimum of so many runs from it on
abbrev pub AreRunMinima : List ℕ → ℕ → List ℕ → Type 0
AreRunMinima entries number minima = (run : ℕ) → run < length minima →
    IsLeastOf entries (run * RUN) ((run + number) * RUN) (slice_index minima run)

-- the minima of spans of each power of two runs
abbrev pub AreSpans : List ℕ → ℕ → List Spans → Type 0
AreSpans entries runs spans = (power : ℕ) (s : Spans) → slice_get spans power ≡ Some s →
    (length s.minima.items ≡ runs) × AreRunMinima entries (2 ^ power) s.minima.items

-- a row with the minima of its runs and those of the runs of these
pub record IsIndexed (row : Row) : Type 0 where
  pub some : 1 ≤ length row.entries.items
  pub runs : length row.entries.items ≤ RUN * length row.minima.items
  pub bounds : BoundsRuns row.minima.items row.entries.items
  pub groups : length row.minima.items ≤ RUN * length row.group_minima.items
  pub bounds_groups : BoundsRuns row.group_minima.items row.minima.items
  pub spans : AreSpans row.entries.items (length row.minima.items) row.spans.items
  pub from_zero : slice_index row.entries.items 0 ≡ 0

-- the rows of the levels from 1 on, as many as there are
pub record AreRows (masses : List ℕ) (rows : List Row) : Type 0 where
  pub indexed : (place : ℕ) (row : Row) → slice_get rows place ≡ Some row → IsIndexed row
  pub lengths : (place : ℕ) (row : Row) → slice_get rows place ≡ Some row →
      length row.entries.items ≡ modulus_of masses
  pub sums : (place : ℕ) (row : Row) → slice_get rows place ≡ Some row →
      IsRow (drop (length masses - (place + 1)) masses) row.entries.items

-- a table: scaled masses, and a row for each level from 1 on
pub record IsTable (masses : List ℕ) (rows : List Row) : Type 0 where
  pub scaled : AreScaled masses
  pub one_each : length rows ≡ length masses
  pub rows_are : AreRows masses rows

-- the first place of a part of a row whose number is reached, where the part's first number is given
pub record IsFirstPlace (entries : List ℕ) (start end from place : ℕ) : Type 0 where
  pub from_start : start ≤ place
  pub to_end : place < end
  pub reached : slice_index entries place + start ≤ from + place
  pub none_before : (k : ℕ) → start ≤ k → k < place → from + k < slice_index entries k + start

-- no number of that part is reached
abbrev pub NoneReached : List ℕ → ℕ → ℕ → ℕ → Type 0
NoneReached entries start end from = (k : ℕ) → start ≤ k → k < end → from + k < slice_index entries k + start

-- a number of that part is reached
abbrev pub IsSomeReached : List ℕ → ℕ → ℕ → ℕ → Type 0
IsSomeReached entries start end from =
    (k : ℕ) × (start ≤ k) × (k < end) × (slice_index entries k + start ≤ from + k)
