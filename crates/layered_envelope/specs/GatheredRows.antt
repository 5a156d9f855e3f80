-- Members that are gathered: their counts end to end, and a row for each.
use Rattle.std.specs.Prelude.{ℕ, ◌≡◌, ◌+◌, List, [], ◌∷◌, length, flat_map}
use Rattle.std.specs.List.{concat}
use Rattle.multinomial_bounds.specs.Isotopologue.{Element}
use Rattle.isotopologue_sets.specs.Layers.{lo_of, hi_of}
use Rattle.layered_envelope.specs.PlacedLayers.{counts_at}
use Rattle.layered_envelope.specs.declared.gathering.MemberRow.{MemberRow}

-- the counts of the isotopologues at places, end to end
abbrev pub end_to_end : List Element → List (List ℕ) → List ℕ
end_to_end elements members = flat_map (λ places. concat (counts_at elements places)) members

-- the row of the isotopologue at places whose counts begin there
pub record IsRow (elements : List Element) (start : ℕ) (places : List ℕ) (row : MemberRow) : Type 0 where
  pub there : row.start ≡ start
  pub lo_is : row.enclosure.lo ≡ lo_of elements (counts_at elements places)
  pub hi_is : row.enclosure.hi ≡ hi_of elements (counts_at elements places)

-- their rows, where the counts of the first one begin at `start`
abbrev pub AreRows : List Element → ℕ → List (List ℕ) → List MemberRow → Type 0
AreRows elements start [] [] = Unit {0}
AreRows elements start [] (row ∷ rows) = ⊥
AreRows elements start (places ∷ members) [] = ⊥
AreRows elements start (places ∷ members) (row ∷ rows) =
    IsRow elements start places row
    × AreRows elements (start + length (concat (counts_at elements places))) members rows
