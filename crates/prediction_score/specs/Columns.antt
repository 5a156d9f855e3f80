-- For private contracts and proofs: what is known of the peaks that a column of masses was held against.
use Rattle.std.specs.Prelude.{ℕ, pos, ◌+◌, ◌-◌, ◌<◌, ◌≤◌, ◌≡◌, ◌↔◌, List, length, slice_index, slice_index_or, Option, Some, None}
use Rattle.mass_scaling.specs.Tolerances.{Within}
use Rattle.mass_scaling.specs.Windows.{Holds}
use Rattle.mass_scaling.specs.declared.tolerances.Tolerance.{Tolerance}
use Rattle.mass_scaling.specs.declared.windows.Window.{Window}
use Rattle.prediction_score.specs.declared.columns.Asked.{Asked}
use Rattle.prediction_score.specs.declared.order.Entry.{Entry}

-- with no window the mass isn't within tolerance of the peak, and with one it is exactly where the window holds it
abbrev pub IsReachOf : ℕ → ℕ → ℕ → Tolerance → Option Window → Type 0
IsReachOf mass mz divisor tolerance None = ¬ Within (pos mass) mz tolerance divisor
IsReachOf mass mz divisor tolerance (Some window) = Within (pos mass) mz tolerance divisor ↔ Holds window mass

-- so for each mass of a column
pub record IsReach (column : List ℕ) (mz divisor : ℕ) (tolerance : Tolerance) (reach : Option Window) : Type 0 where
  pub each : (k : ℕ) → k < length column → 1 ≤ slice_index column k
      → IsReachOf (slice_index column k) mz divisor tolerance reach

-- so for each of some entries
pub record AreReaches (entries : List Entry) (column : List ℕ) (divisor : ℕ) (tolerance : Tolerance)
    (reaches : List (Option Window)) : Type 0 where
  pub many : length reaches ≡ length entries
  pub each : (i : ℕ) (e : Entry) (r : Option Window) → i < length reaches
      → IsReach column (slice_index_or entries i e).mz divisor tolerance (slice_index_or reaches i r)

-- what is known of the entry of an index
pub record IsReachAt (asked : Asked) (index : ℕ) (reach : Option Window) : Type 0 where
  pub from : asked.first ≤ index
  pub within : index < asked.first + length asked.reaches.items
  pub is : reach ≡ slice_index_or asked.reaches.items (index - asked.first) reach

-- what is known of the entries from the first that was asked on
pub record AreAsked (entries : List Entry) (column : List ℕ) (divisor : ℕ) (tolerance : Tolerance)
    (asked : Asked) : Type 0 where
  pub each : (i : ℕ) (e : Entry) (r : Option Window) → i < length asked.reaches.items
      → IsReach column (slice_index_or entries (asked.first + i) e).mz divisor tolerance
      (slice_index_or asked.reaches.items i r)

-- what is known of one mass at a peak, where something is
abbrev pub IsKnown : ℕ → ℕ → ℕ → Tolerance → Option (Option Window) → Type 0
IsKnown mass mz divisor tolerance None = Unit {0}
IsKnown mass mz divisor tolerance (Some reach) = IsReachOf mass mz divisor tolerance reach

-- what is known of one mass at each entry
pub record AreKnown (entries : List Entry) (mass divisor : ℕ) (tolerance : Tolerance) (asked : Asked) : Type 0 where
  pub each : (i : ℕ) (e : Entry) (r : Option Window) → i < length asked.reaches.items
      → IsReachOf mass (slice_index_or entries (asked.first + i) e).mz divisor tolerance
      (slice_index_or asked.reaches.items i r)
