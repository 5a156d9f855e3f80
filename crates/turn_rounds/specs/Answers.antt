-- What rounds of turns answer, and how far the jobs have come after them.
use Rattle.std.specs.Prelude.{◌≡◌, ℕ, ◌+◌, List, length, Option, Some, None, Result, Ok, Err, ⊤}
use Rattle.job_turns.specs.declared.board.BoardFault.{BoardFault}
use Rattle.job_turns.specs.declared.board.BoardFault.TheVariants.{Job, Memory}
use Rattle.job_turns.specs.Turns.{Progress, PlaysTurns, board_after}
use Rattle.turn_rounds.specs.Rounds.{round_turns, board_after_rounds}
use Rattle.turn_rounds.specs.Stops.{first_stop}

-- The turns of rounds are given one after another: so many, or, without a number, as many as it takes.
abbrev pub PlaysRounds : {Item Fault : Type 0} → ℕ → Option ℕ → List (Progress Item Fault)
    → Result (Unit {0}) (BoardFault Fault) → List (Progress Item Fault) → Type 0
PlaysRounds allow (Some count) before answer after =
    PlaysTurns (round_turns (length before) allow count) before answer after
PlaysRounds allow None before answer after =
    (count : ℕ) × PlaysTurns (round_turns (length before) allow count) before answer after

-- What comes of it. Where no stop is met each job has given its part and is finished where it is done. Else the stop
-- that is met first is answered, and the turns up to the one that meets it stay given. Want of memory is free to come.
abbrev pub EndsRounds : {Item Fault : Type 0} → ℕ → Option ℕ → List (Progress Item Fault)
    → Result (Unit {0}) (BoardFault Fault) → List (Progress Item Fault) → Type 0
EndsRounds allow turns before (Ok _) after =
    (first_stop allow turns before ≡ None) × (after ≡ board_after_rounds allow turns before)
EndsRounds allow turns before (Err (Job job fault)) after =
    (turn : ℕ) × (first_stop allow turns before ≡ Some (record { turn = turn; job = job; fault = fault }))
    × (after ≡ board_after (round_turns (length before) allow (turn + 1)) before)
EndsRounds allow turns before (Err Memory) after = ⊤
