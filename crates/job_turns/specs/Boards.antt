-- What a board shows of its jobs.
use Rattle.std.specs.Prelude.{List, map, Option}
use Rattle.job_turns.specs.declared.board.Entry.{Entry}
use Rattle.job_turns.specs.declared.board.JobBoard.{JobBoard}
use Rattle.job_turns.specs.Turns.{Progress}

-- how far the job of an entry has come, where `left` and `stop` tell what is left of a job
abbrev pub progress_of : {J Item Fault : Type 0} → (J → List Item) → (J → Option Fault) → Entry J Item
    → Progress Item Fault
progress_of left stop entry = record {
  found = entry.found.items;
  left = left entry.job;
  stop = stop entry.job;
  finished = entry.finished;
}

-- how far the jobs of a board have come, in their places
abbrev pub jobs_of : {J Item Fault : Type 0} → (J → List Item) → (J → Option Fault) → JobBoard J Item
    → List (Progress Item Fault)
jobs_of left stop board = map (progress_of left stop) board.entries.items
