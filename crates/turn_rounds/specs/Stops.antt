-- The stop that rounds meet first.
use Rattle.std.specs.Prelude.{ℕ, ◌+◌, ◌*◌, ◌/◌, nat_lt, Bool, true, List, [], ◌∷◌, length}
use Rattle.std.specs.Prelude.{Option, Some, None, option_map, option_and_then, if◌then◌else◌}
use Rattle.job_turns.specs.Turns.{Progress}

-- a stop that is met: the number of the turn, counted from 0, that meets it, and the place of its job
pub record Stop (Fault : Type 0) : Type 0 where
  pub turn : ℕ
  pub job : ℕ
  pub fault : Fault

-- The turn, counted from 0, in which rounds over so many jobs first allow the job at a place more than so many items.
-- Of these each turn before takes as many as it allows.
abbrev pub end_turn : ℕ → ℕ → ℕ → ℕ → ℕ
end_turn jobs allow place items = items / allow * jobs + place

-- the stop of the job at a place, if it has one
abbrev pub stop_at : {Item Fault : Type 0} → ℕ → ℕ → ℕ → Progress Item Fault → Option (Stop Fault)
stop_at jobs allow place job =
    option_map (λ fault. record { turn = end_turn jobs allow place (length job.left); job = place; fault = fault })
    job.stop

-- the one that is met earlier
abbrev pub earlier : {Fault : Type 0} → Option (Stop Fault) → Option (Stop Fault) → Option (Stop Fault)
earlier None other = other
earlier (Some stop) None = Some stop
earlier (Some stop) (Some other) = if nat_lt other.turn stop.turn then Some other else Some stop

-- the one that is met first of the jobs from a place on, however long the rounds go on
abbrev pub first_from : {Item Fault : Type 0} → ℕ → ℕ → ℕ → List (Progress Item Fault) → Option (Stop Fault)
first_from jobs allow place [] = None
first_from jobs allow place (job ∷ rest) =
    earlier (stop_at jobs allow place job) (first_from jobs allow (place + 1) rest)

-- whether a turn is given: it is one of so many, or of all
abbrev pub is_given : Option ℕ → ℕ → Bool
is_given (Some count) turn = nat_lt turn count
is_given None turn = true

-- the stop that rounds meet first, of all jobs, if one is met in a turn that is given
abbrev pub first_stop : {Item Fault : Type 0} → ℕ → Option ℕ → List (Progress Item Fault) → Option (Stop Fault)
first_stop allow turns jobs =
    option_and_then (λ stop. if is_given turns stop.turn then Some stop else None)
    (first_from (length jobs) allow 0 jobs)
