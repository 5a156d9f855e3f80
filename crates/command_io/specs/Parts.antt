-- What a part of a run shows of the shelf and of the output, and what it answers.
use Rattle.std.specs.Prelude.{◌≡◌, ℕ, ◌+◌, ◌≤◌, ◌++◌, List, take, slice_get, Option, Some, IfSome, Result, Ok, Err, ⊤}
use Rattle.std.specs.Io.KnownBytes.{append_known}
use Rattle.outside_ports.specs.Faults.{Rose}
use Rattle.outside_ports.specs.Files.{Files}
use Rattle.command_io.specs.Asked.{Asked, Names}
use Rattle.command_io.specs.declared.refusal.Refusal.{Refusal}
use Rattle.command_io.specs.declared.refusal.Refusal.TheVariants.{Words, Input, ReadFault, WriteFault, Memory}

-- The names asked are all of these where nothing is refused, and else some first ones of them; a file that couldn't be
-- read is the last one asked for.
abbrev pub AsksNames : {X : Type 0} → Names → Names → Names → Result X Refusal → Type 0
AsksNames names before after (Ok x) = after ≡ before ++ names
AsksNames names before after (Err (ReadFault name)) =
    (others : ℕ) × (slice_get names others ≡ Some name) × (after ≡ before ++ take (others + 1) names)
AsksNames names before after (Err refusal) = (asked : ℕ) × (after ≡ before ++ take asked names)

-- The shelf's count of faults rose where a file couldn't be read, and else is as it was; memory may have run out
-- behind a fault.
abbrev pub CountsReads : {X : Type 0} → ℕ → ℕ → Result X Refusal → Type 0
CountsReads before after (Err (ReadFault name)) = Rose before after × (before ≤ after)
CountsReads before after (Err Memory) = before ≤ after
CountsReads before after answered = after ≡ before

-- it is no fault of the words or of the output
abbrev pub OnlyReads : {X : Type 0} → Result X Refusal → Type 0
OnlyReads (Err (Words fault)) = ⊥
OnlyReads (Err WriteFault) = ⊥
OnlyReads answered = ⊤

-- What a part of a run that may ask for files of these names shows of the shelf, whatever the files hold. No such part
-- writes.
pub record Reads {X : Type 0} (names before after : Names) (faults_before faults_after : ℕ) (answered : Result X Refusal) : Type 0 where
  pub asks : AsksNames names before after answered
  pub counts : CountsReads faults_before faults_after answered
  pub only_reads : OnlyReads answered

-- What a part of a run answers and asks for, where this is expected of it: the value, seen through `view`, or the
-- refusal, and the names up to it. Only a device that failed, or want of memory, can end it earlier.
abbrev pub AnswersAs : {X A : Type 0} → (X → A) → Asked A → Names → Names → Result X Refusal → Type 0
AnswersAs view expected before after (Ok x) = (expected.result ≡ Ok (view x)) × (after ≡ before ++ expected.names)
AnswersAs view expected before after (Err (Input fault)) =
    (expected.result ≡ Err (Input fault)) × (after ≡ before ++ expected.names)
AnswersAs view expected before after (Err refusal) = (asked : ℕ) × (after ≡ before ++ take asked expected.names)

-- what a shelf shows at one moment: what it holds, where it tells that, the names asked, and its count of faults
pub record Shelved : Type 0 where
  pub held : Option Files
  pub asked : Names
  pub faults : ℕ

abbrev pub shelved : Option Files → Names → ℕ → Shelved
shelved held asked faults = record { held = held; asked = asked; faults = faults }

-- A part of a run that may ask for files of these names, and of which this is expected over files: what it shows of
-- the shelf, which holds what it held, and what it answers.
pub record IsPart {X A : Type 0} (view : X → A) (names : Names) (expected : Files → Asked A)
    (before after : Shelved) (answered : Result X Refusal) : Type 0 where
  pub held : after.held ≡ before.held
  pub reads : Reads names before.asked after.asked before.faults after.faults answered
  pub answers : IfSome before.held (λ files. AnswersAs view (expected files) before.asked after.asked answered)

-- how a run ends: its report is written, or there is a refusal
abbrev pub Ending : Type 0
Ending = Result (Unit {0}) Refusal

-- What was put of a text: all of it, or some first bytes where the output failed or memory ran out. The count of the
-- output's faults rose exactly where it failed.
abbrev pub Puts : List ℕ → Option (List ℕ) → Option (List ℕ) → ℕ → ℕ → Ending → Type 0
Puts text before after faults_before faults_after (Ok done) =
    (after ≡ append_known before text) × (faults_after ≡ faults_before)
Puts text before after faults_before faults_after (Err WriteFault) =
    ((taken : ℕ) × (after ≡ append_known before (take taken text)))
    × Rose faults_before faults_after × (faults_before ≤ faults_after)
Puts text before after faults_before faults_after (Err Memory) =
    ((taken : ℕ) × (after ≡ append_known before (take taken text))) × (faults_after ≡ faults_before)
Puts text before after faults_before faults_after (Err refusal) = ⊥
