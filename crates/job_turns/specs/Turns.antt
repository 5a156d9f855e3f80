-- Turns of jobs: a turn lets a job give so many items, or all that are left where these are fewer.
use Rattle.std.specs.Prelude.{◌≡◌, ℕ, ◌+◌, ◌<◌, ◌≤◌, ◌==◌, nat_lt, Bool, false, ◌&&◌, ◌||◌, List, [], ◌∷◌, ◌++◌}
use Rattle.std.specs.Prelude.{length, map, take, drop, sum_by}
use Rattle.std.specs.Prelude.{Option, Some, None, is_none, Result, Ok, Err, slice_get, slice_set, if◌then◌else◌}
use Rattle.std.specs.List.{enumerate_from}
use Rattle.job_turns.specs.declared.board.Turn.{Turn}
use Rattle.job_turns.specs.declared.board.TurnEnd.{TurnEnd}
use Rattle.job_turns.specs.declared.board.TurnEnd.TheVariants.{Full, Finished}
use Rattle.job_turns.specs.declared.board.BoardFault.{BoardFault}
use Rattle.job_turns.specs.declared.board.BoardFault.TheVariants.{Job, Memory}

-- how far a job has come: the items found, those left, the stop behind these, and whether a turn of it ended in
-- finished
pub record Progress (Item Fault : Type 0) : Type 0 where
  pub found : List Item
  pub left : List Item
  pub stop : Option Fault
  pub finished : Bool

-- a job before its first turn
abbrev pub begun : {Item Fault : Type 0} → List Item → Option Fault → Progress Item Fault
begun left stop = record { found = []; left = left; stop = stop; finished = false }

-- A job that was allowed so many items has given the first ones of its list, as many as it was allowed, or its whole
-- list where that is shorter. Where it was allowed more than its list has, it is finished if it has no stop.
abbrev pub progress_after : {Item Fault : Type 0} → ℕ → Progress Item Fault → Progress Item Fault
progress_after allowed job = record {
  found = job.found ++ take allowed job.left;
  left = drop allowed job.left;
  stop = job.stop;
  finished = job.finished || (nat_lt (length job.left) allowed && is_none job.stop);
}

-- What a turn of the job at a place answers, and how far the job has come after it. Full: at least as many items were
-- left as the turn allows. Finished: fewer were left, and the job has no stop. The stop: fewer were left, and there is
-- one. Want of memory: the items taken before it stay found.
abbrev pub TakesTurn : {Item Fault : Type 0} → ℕ → ℕ → Progress Item Fault → Result TurnEnd (BoardFault Fault)
    → Progress Item Fault → Type 0
TakesTurn place allow before (Ok Full) after = (allow ≤ length before.left) × (after ≡ progress_after allow before)
TakesTurn place allow before (Ok (Finished gave)) after =
    (length before.left < allow) × (before.stop ≡ None) × (gave ≡ length before.left)
    × (after ≡ progress_after allow before)
TakesTurn place allow before (Err (Job job fault)) after =
    (length before.left < allow) × (before.stop ≡ Some fault) × (job ≡ place) × (after ≡ progress_after allow before)
TakesTurn place allow before (Err Memory) after =
    (taken : ℕ) × (taken < allow) × (taken ≤ length before.left) × (after ≡ progress_after taken before)

-- the same of the job at this place of a board, whose other jobs stay as they were
pub record TurnOnBoard {Item Fault : Type 0} (place allow : ℕ) (before : List (Progress Item Fault))
    (answer : Result TurnEnd (BoardFault Fault)) (after : List (Progress Item Fault)) : Type 0 where
  pub old : Progress Item Fault
  pub new : Progress Item Fault
  pub at : slice_get before place ≡ Some old
  pub turn : TakesTurn place allow old answer new
  pub others : after ≡ slice_set before place new

-- the sum of the allowances of a job in a list of turns
abbrev pub allowance : List Turn → ℕ → ℕ
allowance turns job = sum_by (λ turn. if turn.job == job then turn.allow else 0) turns

-- how far the jobs have come after a list of turns: each goes by the sum of its own allowances
abbrev pub board_after : {Item Fault : Type 0} → List Turn → List (Progress Item Fault) → List (Progress Item Fault)
board_after turns jobs = map (λ job. progress_after (allowance turns job.0) job.1) (enumerate_from 0 jobs)

-- in these turns the job at this place meets its stop: it is allowed more items than are left before it
pub record MeetsStop {Item Fault : Type 0} (turns : List Turn) (jobs : List (Progress Item Fault)) (place : ℕ)
    (fault : Fault) : Type 0 where
  pub job : Progress Item Fault
  pub at : slice_get jobs place ≡ Some job
  pub stop : job.stop ≡ Some fault
  pub allowed : length job.left < allowance turns place

-- in these turns no job meets its stop
abbrev pub MeetsNoStop : {Item Fault : Type 0} → List Turn → List (Progress Item Fault) → Type 0
MeetsNoStop {Item} {Fault} turns jobs = (place : ℕ) (fault : Fault) → ¬ MeetsStop turns jobs place fault

-- a list of turns ends at a fault: that of the first turn that has one, and the turns before it were given
pub record EndsAtFault {Item Fault : Type 0} (turns : List Turn) (before : List (Progress Item Fault))
    (fault : BoardFault Fault) (after : List (Progress Item Fault)) : Type 0 where
  pub given : List Turn
  pub turn : Turn
  pub rest : List Turn
  pub parts : turns ≡ given ++ turn ∷ rest
  pub no_stop : MeetsNoStop given before
  pub at_fault : TurnOnBoard turn.job turn.allow (board_after given before) (Err fault) after

-- What a list of turns answers, and how far the jobs have come after it. Where no job meets its stop all turns were
-- given, whatever turns of others stand between those of a job.
abbrev pub PlaysTurns : {Item Fault : Type 0} → List Turn → List (Progress Item Fault)
    → Result (Unit {0}) (BoardFault Fault) → List (Progress Item Fault) → Type 0
PlaysTurns turns before (Ok _) after = MeetsNoStop turns before × (after ≡ board_after turns before)
PlaysTurns turns before (Err fault) after = EndsAtFault turns before fault after

-- the items of a job: those found, and then those left
abbrev pub items_of : {Item Fault : Type 0} → Progress Item Fault → List Item
items_of job = job.found ++ job.left

-- each job keeps its items and its stop
pub record KeepsItems {Item Fault : Type 0} (before after : List (Progress Item Fault)) : Type 0 where
  pub items : map items_of after ≡ map items_of before
  pub stops : map (λ job. job.stop) after ≡ map (λ job. job.stop) before
