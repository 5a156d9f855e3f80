-- The lines of a text. Private contracts and their proofs alone use this.
use Rattle.std.specs.Prelude.{ℕ, ◌+◌, ◌==◌, List, length, position}
use Rattle.std.specs.Option.{option_map_or}

-- the length of the first line of a text, its line feed included: that of the whole text, where it has none
abbrev pub first_line_len : List ℕ → ℕ
first_line_len text = option_map_or (λ place. place + 1) (position (λ byte. byte == 10) text) (length text)
