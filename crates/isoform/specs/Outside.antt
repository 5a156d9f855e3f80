-- What a run does at the outside: how it ends, and what the shelf, the output and the notes show of it.
use Rattle.std.specs.Prelude.{◌≡◌, ℕ, ◌+◌, ◌≤◌, ◌++◌, ◌⊎◌, List, [], ◌∷◌, take, Option, IfSome, Result, Ok, Err}
use Rattle.std.specs.Prelude.{IsOkAnd, ⊤}
use Rattle.std.specs.Io.KnownBytes.{append_known}
use Rattle.outside_ports.specs.Faults.{Rose}
use Rattle.outside_ports.specs.Files.{Files}
use Rattle.command_words.specs.declared.fault.WordsFault.{WordsFault}
use Rattle.command_words.specs.declared.request.Request.{Request}
use Rattle.command_io.specs.Asked.{Asked, Names}
use Rattle.command_io.specs.Notes.{status_of, note_of}
use Rattle.command_io.specs.Refusals.{of_words_fault}
use Rattle.command_io.specs.declared.refusal.Refusal.{Refusal}
use Rattle.command_io.specs.declared.refusal.Refusal.TheVariants.{Words, Input, ReadFault, WriteFault, Memory}
use Rattle.command_io.specs.Parts.{AsksNames, CountsReads, Ending}
use Rattle.isoform.specs.Answer.{Outcome, IsReport}
use Rattle.isoform.specs.Claims.{Holds}

-- it is no fault of the words
abbrev pub NoWordsFault : {X : Type 0} → Result X Refusal → Type 0
NoWordsFault (Err (Words fault)) = ⊥
NoWordsFault answered = ⊤

-- what the shelf and the output show at one moment: the names asked and the shelf's faults, what `out` received, where
-- it tells that, and its faults
pub record Outside : Type 0 where
  pub asked : Names
  pub shelf_faults : ℕ
  pub received : Option (List ℕ)
  pub out_faults : ℕ

abbrev pub outside : Names → ℕ → Option (List ℕ) → ℕ → Outside
outside asked shelf_faults received out_faults =
    record { asked = asked; shelf_faults = shelf_faults; received = received; out_faults = out_faults }

-- the count of the output's faults rose where the report couldn't be written, and else is as it was
abbrev pub CountsWrites : ℕ → ℕ → Ending → Type 0
CountsWrites before after (Err WriteFault) = Rose before after × (before ≤ after)
CountsWrites before after ending = after ≡ before

-- the output received nothing where what was given is refused, or a file couldn't be read
abbrev pub ReceivesNothing : Option (List ℕ) → Option (List ℕ) → Ending → Type 0
ReceivesNothing before after (Err (Words fault)) = after ≡ before
ReceivesNothing before after (Err (Input fault)) = after ≡ before
ReceivesNothing before after (Err (ReadFault name)) = after ≡ before
ReceivesNothing before after ending = ⊤

-- what a run that may ask for files of these names shows at the outside, whatever they hold
pub record Shows (names : Names) (before after : Outside) (ending : Ending) : Type 0 where
  pub asks : AsksNames names before.asked after.asked ending
  pub reads : CountsReads before.shelf_faults after.shelf_faults ending
  pub writes : CountsWrites before.out_faults after.out_faults ending
  pub receives : ReceivesNothing before.received after.received ending

-- words that are no request are refused with their fault, or memory ran out; and no other words are
abbrev pub RefusesWords : Result Request WordsFault → Ending → Type 0
RefusesWords (Ok request) ending = NoWordsFault ending
RefusesWords (Err fault) ending = (ending ≡ Err (of_words_fault fault)) ⊎ (ending ≡ Err Memory)

-- some first bytes of a report of the outcome were received
pub record ReceivesSome (outcome : Outcome) (before after : Option (List ℕ)) : Type 0 where
  pub report : List ℕ
  pub is_report : IsReport outcome report
  pub taken : ℕ
  pub received : after ≡ append_known before (take taken report)

-- the same, where there is an outcome, and else nothing was received
abbrev pub ReceivesSomeOf : Result Outcome Refusal → Option (List ℕ) → Option (List ℕ) → Type 0
ReceivesSomeOf (Ok outcome) before after = ReceivesSome outcome before after
ReceivesSomeOf (Err refusal) before after = after ≡ before

-- the whole of a report of the outcome was received
pub record ReceivesAll (outcome : Outcome) (before after : Option (List ℕ)) : Type 0 where
  pub report : List ℕ
  pub is_report : IsReport outcome report
  pub received : after ≡ append_known before report

-- How a run ends that has this answer: its report is written, and what it claims holds, or what was given is refused,
-- as the answer says; or a file couldn't be read, the report couldn't be written whole, or memory ran out before that.
abbrev pub EndsAs : Asked Outcome → Outside → Outside → Ending → Type 0
EndsAs answer before after (Ok done) =
    IsOkAnd answer.result (λ outcome. ReceivesAll outcome before.received after.received × Holds outcome)
    × (after.asked ≡ before.asked ++ answer.names)
EndsAs answer before after (Err WriteFault) =
    IsOkAnd answer.result (λ outcome. ReceivesSome outcome before.received after.received)
    × (after.asked ≡ before.asked ++ answer.names)
EndsAs answer before after (Err Memory) =
    ReceivesSomeOf answer.result before.received after.received
    × ((asked : ℕ) × (after.asked ≡ before.asked ++ take asked answer.names))
EndsAs answer before after (Err (ReadFault name)) =
    (asked : ℕ) × (after.asked ≡ before.asked ++ take asked answer.names)
EndsAs answer before after (Err refusal) =
    (answer.result ≡ Err refusal) × (after.asked ≡ before.asked ++ answer.names)

-- What a run that serves a request shows, which may ask for files of these names, and of which this is the answer over
-- files: the shelf holds what it held, what is shown of the devices, and how the run ends.
pub record Serves (names : Names) (answer : Files → Asked Outcome) (held_before held_after : Option Files)
    (before after : Outside) (ending : Ending) : Type 0 where
  pub held : held_after ≡ held_before
  pub words : NoWordsFault ending
  pub shows : Shows names before after ending
  pub answers : IfSome held_before (λ files. EndsAs (answer files) before after ending)

-- the refusal that is told is the one that came, or want of memory for its note; a write fault takes none
abbrev pub IsTold : Refusal → Refusal → Type 0
IsTold came told = (told ≡ came) ⊎ ((told ≡ Memory) × (came ≡ WriteFault → ⊥))

-- a note was received, or some first bytes of it where the count of faults rose
abbrev pub IsPut : List ℕ → Option (List ℕ) → ℕ → Option (List ℕ) → ℕ → Type 0
IsPut note before faults_before after faults_after =
    ((after ≡ append_known before note) × (faults_after ≡ faults_before))
    ⊎ (Rose faults_before faults_after × (faults_before ≤ faults_after)
    × ((taken : ℕ) × (after ≡ append_known before (take taken note))))

-- the notes received nothing where the report is written, and else the note, or some first bytes of it where their
-- count of faults rose
abbrev pub TellsNote : {X : Type 0} → Option (List ℕ) → ℕ → Option (List ℕ) → ℕ → Result X Refusal → Type 0
TellsNote before faults_before after faults_after (Ok done) = (after ≡ before) × (faults_after ≡ faults_before)
TellsNote before faults_before after faults_after (Err refusal) =
    IsPut (note_of refusal) before faults_before after faults_after

-- the note of a file that couldn't be read has the last name asked
pub record TellsLastName (asked : Names) (before : Option (List ℕ)) (faults_before : ℕ) (after : Option (List ℕ))
    (faults_after : ℕ) : Type 0 where
  pub others : Names
  pub name : List ℕ
  pub last : asked ≡ others ++ name ∷ []
  pub told : IsPut (note_of (ReadFault name)) before faults_before after faults_after

-- the status of an ending, and of an answer that no device and no want of memory hinders
abbrev pub status_of_result : {X : Type 0} → Result X Refusal → ℕ
status_of_result (Ok x) = 0
status_of_result (Err refusal) = status_of refusal

abbrev pub status_of_answer : Asked Outcome → ℕ
status_of_answer answer = status_of_result answer.result

-- a run on words, which have files of these names, and whose answer over files is this: how it ends, with which status,
-- and what the shelf, `out` and the notes show of that
pub record Runs (names : Names) (request : Result Request WordsFault) (held : Option Files)
    (answer : Files → Asked Outcome) (before after : Outside)
    (notes_before : Option (List ℕ)) (note_faults_before : ℕ)
    (notes_after : Option (List ℕ)) (note_faults_after : ℕ) (status : ℕ) : Type 0 where
  pub ending : Ending
  pub status_is : status ≡ status_of_result ending
  pub words : RefusesWords request ending
  pub shows : Shows names before after ending
  pub answers : IfSome held (λ files. EndsAs (answer files) before after ending)
  pub tells : TellsNote notes_before note_faults_before notes_after note_faults_after ending
