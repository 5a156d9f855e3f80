-- A sink of bytes in memory, of which puts can be named to fail.
use Rattle.std.specs.Prelude.{ℕ, ◌-◌, min, Bool, ◌||◌, ◌==◌, nat_lt, List, ◌++◌, length, take, reverse, Option, is_some}
use Rattle.std.specs.Prelude.{unwrap_or, find, if◌then◌else◌}
use Rattle.std.specs.Option.{option_map}
use Rattle.outside_ports.specs.Faults.{count_after}
use Rattle.outside_ports.specs.declared.memory_sink.FailingPut.{FailingPut}

-- what such a sink is seen as
pub record BytesInMemory : Type 0 where
  -- the bytes written so far
  pub written : List ℕ
  -- for how many bytes more there is room
  pub room : ℕ
  -- how many faults came so far
  pub faults : ℕ
  -- how many pieces that aren't empty were put so far
  pub puts : ℕ
  -- the puts that are to fail, in the order in which they were named
  pub failing : List FailingPut

-- how many bytes the put of that number may take, if it is to fail; of two numbers named for one
-- put the later one counts
abbrev pub allowance_of : ℕ → List FailingPut → Option ℕ
allowance_of call failing = option_map (λ put. put.taken) (find (λ put. put.call == call) (reverse failing))

-- what the next put of a piece that isn't empty was named to take
abbrev pub next_allowance : BytesInMemory → Option ℕ
next_allowance sink = allowance_of (count_after sink.puts) sink.failing

-- whether the put of a piece that isn't empty fails: it was named to, or the piece is longer than
-- the room left
abbrev pub is_failing_put : BytesInMemory → List ℕ → Bool
is_failing_put sink piece = is_some (next_allowance sink) || nat_lt sink.room (length piece)

-- how many bytes of the piece are taken: as many as the room left and the number named allow
abbrev pub taken_count : BytesInMemory → List ℕ → ℕ
taken_count sink piece = min (min (length piece) sink.room) (unwrap_or (next_allowance sink) (length piece))

-- the sink after the put of a piece that isn't empty
abbrev pub sink_after_put : BytesInMemory → List ℕ → BytesInMemory
sink_after_put sink piece = record {
  written = sink.written ++ take (taken_count sink piece) piece;
  room = sink.room - taken_count sink piece;
  faults = if is_failing_put sink piece then count_after sink.faults else sink.faults;
  puts = count_after sink.puts;
  failing = sink.failing;
}
