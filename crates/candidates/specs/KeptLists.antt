-- Count lists of equal length that are kept end to end.
use Rattle.std.specs.Prelude.{ℕ, zero, suc, List, [], ◌∷◌, take, drop}

-- so many lists of this length, from the front of some counts
abbrev pub lists_in : ℕ → ℕ → List ℕ → List (List ℕ)
lists_in zero width counts = []
lists_in (suc many) width counts = take width counts ∷ lists_in many width (drop width counts)
