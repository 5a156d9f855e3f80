-- The text of an element's symbol.
use Rattle.std.specs.Prelude.{ℕ, Bool, false, ◌&&◌, nat_le, List, [], ◌∷◌}

-- a capital letter, A to Z
abbrev pub is_capital : ℕ → Bool
is_capital letter = nat_le 65 letter && nat_le letter 90

-- a small letter, a to z
abbrev pub is_small : ℕ → Bool
is_small letter = nat_le 97 letter && nat_le letter 122

-- a capital letter and at most two small letters
abbrev pub is_symbol : List ℕ → Bool
is_symbol [] = false
is_symbol (a ∷ []) = is_capital a
is_symbol (a ∷ b ∷ []) = is_capital a && is_small b
is_symbol (a ∷ b ∷ c ∷ []) = is_capital a && is_small b && is_small c
is_symbol (a ∷ b ∷ c ∷ d ∷ more) = false
