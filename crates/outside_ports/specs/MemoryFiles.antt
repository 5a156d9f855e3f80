-- A shelf of files in memory, of which fetches can be named to fail.
pub mod Entry
use Rattle.std.specs.Prelude.{◌≡◌, ◌≢◌, ℕ, ◌+◌, Bool, true, false, ◌||◌, ◌==◌, List, [], ◌∷◌, length, Option, Some}
use Rattle.std.specs.Prelude.{None, is_none, Result, Ok, Err, ⊤, if◌then◌else◌}
use Rattle.std.specs.List.{list_any}
use Rattle.std.specs.Str.{bytes_eq}
use Rattle.outside_ports.specs.Files.{Files}
use Rattle.outside_ports.specs.declared.fault.FetchFault.{FetchFault}
use Rattle.outside_ports.specs.declared.fault.FetchFault.TheVariants.{Failed, TooLong, Memory}

-- what such a shelf is seen as
pub record FilesInMemory : Type 0 where
  -- the names of the files, each with its bytes
  pub files : List (List ℕ × List ℕ)
  -- the names asked so far
  pub asked : List (List ℕ)
  -- how many faults came so far
  pub faults : ℕ
  -- the numbers of the fetches that are to fail, from 1
  pub failing : List ℕ

-- the bytes of the first file of that name
abbrev pub file_bytes : List (List ℕ × List ℕ) → Files
file_bytes [] name = None
file_bytes (file ∷ files) name = if bytes_eq file.0 name then Some file.1 else file_bytes files name

-- the new files have these bytes under that name, and at every other name what the old ones have
pub record Stores (old : Files) (name bytes : List ℕ) (new : Files) : Type 0 where
  pub stored : new name ≡ Some bytes
  pub others : (other : List ℕ) → other ≢ name → new other ≡ old other

-- whether the next fetch, of that name, is to fail: it was named to, or there is no such file
abbrev pub is_failing_fetch : FilesInMemory → List ℕ → Bool
is_failing_fetch shelf name =
    list_any (λ call. call == length shelf.asked + 1) shelf.failing || is_none (file_bytes shelf.files name)

-- the answer is Failed exactly where the fetch is to fail, unless memory ran out
abbrev pub FailsExactly : {A : Type 0} → Result A FetchFault → Bool → Type 0
FailsExactly (Ok _) must_fail = must_fail ≡ false
FailsExactly (Err Failed) must_fail = must_fail ≡ true
FailsExactly (Err TooLong) must_fail = must_fail ≡ false
FailsExactly (Err Memory) must_fail = ⊤
