-- What was read of a reader so far. Private contracts and their proofs alone use this.
use Rattle.std.specs.Prelude.{◌≡◌, ℕ, List, ◌++◌, take, Option, Some, None, Result, Ok, Err, ⊤}
use Rattle.std.specs.Io.{StartsWith}
use Rattle.outside_ports.specs.declared.fault.FetchFault.{FetchFault}

-- What was read behind the bytes before, of a reader that tells what it has left: all of that, or as much as makes
-- so many bytes in all; and where the reading failed, some first bytes of it.
abbrev pub ReadsUpTo : Result (Unit {0}) FetchFault → Option (List ℕ) → ℕ → List ℕ → List ℕ → Type 0
ReadsUpTo result None most before after = ⊤
ReadsUpTo (Ok _) (Some left) most before after = after ≡ take most (before ++ left)
ReadsUpTo (Err _) (Some left) most before after = StartsWith (before ++ left) after
