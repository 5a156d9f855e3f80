-- One item of a turn. Only proofs use it: what a turn means stands in `Turns`.
use Rattle.std.specs.Prelude.{◌≡◌, ℕ, ◌<◌, Bool, true, false, [], length, Option, Some, None, Result, Ok, Err}
use Rattle.job_turns.specs.declared.board.BoardFault.{BoardFault}
use Rattle.job_turns.specs.declared.board.BoardFault.TheVariants.{Job, Memory}
use Rattle.job_turns.specs.Turns.{Progress, progress_after}

-- the next item of the job at a place is found, or there is none, or the stop, or want of memory
abbrev pub TakesItem : {Item Fault : Type 0} → ℕ → Progress Item Fault → Result Bool (BoardFault Fault)
    → Progress Item Fault → Type 0
TakesItem place before (Ok true) after = (0 < length before.left) × (after ≡ progress_after 1 before)
TakesItem place before (Ok false) after = (before.left ≡ []) × (before.stop ≡ None) × (after ≡ before)
TakesItem place before (Err (Job job fault)) after =
    (before.left ≡ []) × (before.stop ≡ Some fault) × (job ≡ place) × (after ≡ before)
TakesItem place before (Err Memory) after = after ≡ before
