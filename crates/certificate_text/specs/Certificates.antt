-- A certificate: what it claims of a formula, and the texts of the isotopologues that it lists. The coverage and the
-- threshold are in units of 10^-18.
use Rattle.std.specs.Prelude.{ℕ, Bool, List}
use Rattle.written_items.specs.declared.item.Item.{Item}

-- a listed isotopologue: whether it is marked as one of the cover, and its text
pub record CertLineEntry : Type 0 where
  pub marked : Bool
  pub text : List ℕ

-- the formula and the wanted coverage, the size and the bound of the cover, the threshold, and the listed
-- isotopologues in their order
pub record CertificateEntries : Type 0 where
  pub formula : List (Item × ℕ)
  pub coverage : ℕ
  pub size : ℕ
  pub bound : ℕ
  pub threshold : ℕ
  pub lines : List CertLineEntry
