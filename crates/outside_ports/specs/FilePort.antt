-- A shelf over the files of a runtime.
use Rattle.std.specs.Prelude.{ℕ, List}

-- what such a shelf is seen as: it tells nothing of the files
pub record FilePort : Type 0 where
  -- the names asked so far
  pub asked : List (List ℕ)
  -- how many faults came so far
  pub faults : ℕ
