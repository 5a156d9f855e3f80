-- What a fetch of a file answers and what it leaves.
use Rattle.std.specs.Prelude.{◌≡◌, ℕ, ◌+◌, ◌<◌, ◌⊎◌, List, [], ◌∷◌, ◌++◌, length, take, Option, Some, IsSomeAnd, Result}
use Rattle.std.specs.Prelude.{Ok, Err, unwrap_or}
use Rattle.std.specs.Io.{StartsWith}
use Rattle.outside_ports.specs.Faults.{Rose}
use Rattle.outside_ports.specs.declared.fault.FetchFault.{FetchFault}
use Rattle.outside_ports.specs.declared.fault.FetchFault.TheVariants.{Failed, TooLong, Memory}

-- The name is appended to the names asked so far. Only where that found no memory is it not: then
-- nothing was fetched either.
abbrev pub Asks : {A : Type 0} → Result A FetchFault → List (List ℕ) → List ℕ → List (List ℕ) → List ℕ → Type 0
Asks (Ok _) before name after bytes = after ≡ before ++ name ∷ []
Asks (Err Failed) before name after bytes = after ≡ before ++ name ∷ []
Asks (Err TooLong) before name after bytes = after ≡ before ++ name ∷ []
Asks (Err Memory) before name after bytes = (after ≡ before ++ name ∷ []) ⊎ ((after ≡ before) × (bytes ≡ []))

-- the count of faults rose where the fetch failed, and is as it was after every other answer
abbrev pub CountsFetch : {A : Type 0} → Result A FetchFault → ℕ → ℕ → Type 0
CountsFetch (Ok _) before after = after ≡ before
CountsFetch (Err Failed) before after = Rose before after
CountsFetch (Err TooLong) before after = after ≡ before
CountsFetch (Err Memory) before after = after ≡ before

-- The answer and the bytes that are left, where the shelf tells its file of that name, or tells
-- that there is none: the whole file; the first byte too many, where the file is longer than the
-- limit; or some first bytes of the file, of which there are none where there is no file.
abbrev pub GivesFile : {A : Type 0} → Option (List ℕ) → ℕ → Result A FetchFault → List ℕ → Type 0
GivesFile file limit (Ok _) bytes = file ≡ Some bytes
GivesFile file limit (Err TooLong) bytes =
    IsSomeAnd file (λ whole. (limit < length whole) × (bytes ≡ take (limit + 1) whole))
GivesFile file limit (Err Failed) bytes = StartsWith (unwrap_or file []) bytes
GivesFile file limit (Err Memory) bytes = StartsWith (unwrap_or file []) bytes
