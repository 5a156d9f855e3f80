-- The draws of a number, by a linear congruential generator of 31 bits.
use Rattle.std.specs.Prelude.{ℕ, zero, suc, ◌+◌, ◌*◌, ◌/◌, ◌%◌, ◌^◌}

-- the state behind a state
abbrev pub next_state : ℕ → ℕ
next_state state = (1103515245 * state + 12345) % 2 ^ 31

-- the state to which so many draws lead
unfoldable pub state_after : ℕ → ℕ → ℕ
state_after state zero = state
state_after state (suc drawn) = next_state (state_after state drawn)

-- what is drawn on the way to a state, 15 bits
abbrev pub drawn_at : ℕ → ℕ
drawn_at state = state / 65536

-- the draw of a number behind so many earlier ones
abbrev pub draw : ℕ → ℕ → ℕ
draw number earlier = drawn_at (next_state (state_after number earlier))
