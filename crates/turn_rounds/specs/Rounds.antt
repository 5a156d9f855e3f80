-- Turns in rounds: the jobs get their turns in the order of their places, again and again, each with the same
-- allowance.
use Rattle.std.specs.Prelude.{ℕ, ◌%◌, nat_lt, Bool, true, ◌||◌, List, [], ◌++◌, length, map, take, drop}
use Rattle.std.specs.Prelude.{Option, Some, None}
use Rattle.std.specs.List.{enumerate_from, range_with_len}
use Rattle.job_turns.specs.declared.board.Turn.{Turn}
use Rattle.job_turns.specs.Turns.{Progress, allowance}

-- the turn at this number, counted from 0, of rounds over so many jobs
abbrev pub round_turn : ℕ → ℕ → ℕ → Turn
round_turn jobs allow number = record { job = number % jobs; allow = allow }

-- the first turns of rounds over so many jobs
abbrev pub round_turns : ℕ → ℕ → ℕ → List Turn
round_turns jobs allow count = map (round_turn jobs allow) (range_with_len 0 count)

-- the sum of the allowances that the job at a place has in them
abbrev pub round_allowance : ℕ → ℕ → ℕ → ℕ → ℕ
round_allowance jobs allow count place = allowance (round_turns jobs allow count) place

-- What the job at a place gives of its list in rounds: the first items, as many as the sum of its allowances, or the
-- whole list where that is shorter. Without a number of turns the rounds go on until each job has given its whole list.
abbrev pub given_in_rounds : {Item : Type 0} → ℕ → ℕ → Option ℕ → ℕ → List Item → List Item
given_in_rounds jobs allow (Some count) place items = take (round_allowance jobs allow count place) items
given_in_rounds jobs allow None place items = items

-- what it has left of its list
abbrev pub left_in_rounds : {Item : Type 0} → ℕ → ℕ → Option ℕ → ℕ → List Item → List Item
left_in_rounds jobs allow (Some count) place items = drop (round_allowance jobs allow count place) items
left_in_rounds jobs allow None place items = []

-- A job is done exactly where the sum of its allowances is greater than the number of its items. Without a number of
-- turns the rounds go on until each job is.
abbrev pub is_done : {Item : Type 0} → ℕ → ℕ → Option ℕ → ℕ → List Item → Bool
is_done jobs allow (Some count) place items = nat_lt (length items) (round_allowance jobs allow count place)
is_done jobs allow None place items = true

-- how far the job at a place has come in rounds over so many jobs that met no stop
abbrev pub after_rounds : {Item Fault : Type 0} → ℕ → ℕ → Option ℕ → ℕ → Progress Item Fault → Progress Item Fault
after_rounds jobs allow turns place job = record {
  found = job.found ++ given_in_rounds jobs allow turns place job.left;
  left = left_in_rounds jobs allow turns place job.left;
  stop = job.stop;
  finished = job.finished || is_done jobs allow turns place job.left;
}

-- how far the jobs have
abbrev pub board_after_rounds : {Item Fault : Type 0} → ℕ → Option ℕ → List (Progress Item Fault)
    → List (Progress Item Fault)
board_after_rounds allow turns jobs =
    map (λ job. after_rounds (length jobs) allow turns job.0 job.1) (enumerate_from 0 jobs)
