-- What comes of a shelf of files: the names asked for in turn, and a value or the first refusal.
use Rattle.std.specs.Prelude.{ℕ, nat_lt, List, [], ◌∷◌, ◌++◌, length, if◌then◌else◌, Option, Some, None, Result, Ok}
use Rattle.std.specs.Prelude.{Err}
use Rattle.outside_ports.specs.Files.{Files}
use Rattle.command_io.specs.Refusals.{or_refusal}
use Rattle.command_io.specs.declared.input_fault.InputFault.{InputFault}
use Rattle.command_io.specs.declared.input_fault.InputFault.TheVariants.{FileLimit}
use Rattle.command_io.specs.declared.refusal.Refusal.{Refusal}
use Rattle.command_io.specs.declared.refusal.Refusal.TheVariants.{Input, ReadFault}

-- the names of files
abbrev pub Names : Type 0
Names = List (List ℕ)

-- a value or the first refusal, with the names asked for up to it
pub record Asked (A : Type 0) : Type 0 where
  pub names : Names
  pub result : Result A Refusal

-- what needs no file
abbrev pub asks_none : {A : Type 0} → Result A InputFault → Asked A
asks_none answer = record { names = []; result = or_refusal answer }

-- the bytes of a file, if there is one and it has at most so many
abbrev pub bytes_within : ℕ → List ℕ → Option (List ℕ) → Result (List ℕ) Refusal
bytes_within limit name None = Err (ReadFault name)
bytes_within limit name (Some bytes) =
    if nat_lt limit (length bytes) then Err (Input (FileLimit name)) else Ok bytes

-- the bytes of the file of this name
abbrev pub asks_file : ℕ → List ℕ → Files → Asked (List ℕ)
asks_file limit name files = record { names = name ∷ []; result = bytes_within limit name (files name) }

abbrev pub asks_next : {A B : Type 0} → Names → Result A Refusal → (A → Asked B) → Asked B
asks_next names (Ok x) next = record { names = names ++ (next x).names; result = (next x).result }
asks_next names (Err refusal) next = record { names = names; result = Err refusal }

-- one after another: the names of both in turn; where the first is refused, nothing follows
infixl 10 ◌and_then◌
abbrev pub ◌and_then◌ : {A B : Type 0} → Asked A → (A → Asked B) → Asked B
first and_then next = asks_next first.names first.result next
