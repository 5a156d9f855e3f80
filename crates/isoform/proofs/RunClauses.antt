-- What the status of a run tells, ending by ending.
use Rattle.std.proofs.Common.{◌≡◌, ◌≢◌, ℕ, ◌+◌, ◌≤◌, List, [], ◌∷◌, ◌++◌, take, refl, sym, ap, ◌∙◌, subst, arith}
use Rattle.std.proofs.Common.{inl, inr, lit≤}
use Rattle.std.specs.Prelude.{Option, Some, Result, Ok, Err, IsErr, IfErr, IfSome, IsOkAnd, slice_get, ◌⊎◌}
use Rattle.std.proofs.lemmas.List.{append_assoc, take_more}
use Rattle.std.proofs.lemmas.Option.{get_or_from_slice_get, slice_get_within}
use Rattle.outside_ports.specs.Files.{Files}
use Rattle.command_words.specs.declared.fault.WordsFault.{WordsFault}
use Rattle.command_words.specs.declared.fault.WordsFault.TheVariants as words
use Rattle.command_words.specs.declared.request.Request.{Request}
use Rattle.command_io.specs.Asked.{Asked, Names}
use Rattle.command_io.specs.Notes.{note_of, status_of, status_of_fault}
use Rattle.command_io.specs.Parts.{Ending}
use Rattle.command_io.specs.Refusals.{of_words_fault}
use Rattle.command_io.specs.declared.input_fault.InputFault.{InputFault}
use Rattle.command_io.specs.declared.input_fault.InputFault.TheVariants.{FileLimit, Table, Tracer, Peaks, NoPeak}
use Rattle.command_io.specs.declared.input_fault.InputFault.TheVariants.{Alphabet}
use Rattle.command_io.specs.declared.input_fault.InputFault.TheVariants.{Adduct, Rules, After, NotInBox, Formula, NoIon}
use Rattle.command_io.specs.declared.input_fault.InputFault.TheVariants.{CandidateLimit, Layer, Certificate, Rejected}
use Rattle.command_io.specs.declared.input_fault.InputFault.TheVariants.{CertificateLimit}
use Rattle.command_io.specs.declared.refusal.Refusal.{Refusal}
use Rattle.command_io.specs.declared.refusal.Refusal.TheVariants.{Words, Input, ReadFault, WriteFault, Memory}
use Rattle.command_io.proofs.PartLaws.{all_names, if_some_map}
use Rattle.isoform.specs.Answer.{Outcome}
use Rattle.isoform.specs.Claims.{Holds}
use Rattle.isoform.specs.Outside.{EndsAs, IsPut, Outside, ReceivesAll, ReceivesSome, ReceivesSomeOf}
use Rattle.isoform.specs.Outside.{RefusesWords, Shows, TellsLastName, TellsNote, status_of_result}

-- the status of what was given is 1, or from 3 to 6
pub status_range : (fault : InputFault) →
    ((status_of_fault fault ≡ 2) → ⊥) × (1 ≤ status_of_fault fault) × (status_of_fault fault ≤ 6)
status_range (FileLimit name) = ((λ e. omega (arith, e)), lit≤ tt, lit≤ tt)
status_range (Table fault) = ((λ e. omega (arith, e)), lit≤ tt, lit≤ tt)
status_range (Tracer fault) = ((λ e. omega (arith, e)), lit≤ tt, lit≤ tt)
status_range (Peaks fault) = ((λ e. omega (arith, e)), lit≤ tt, lit≤ tt)
status_range (NoPeak peak) = ((λ e. omega (arith, e)), lit≤ tt, lit≤ tt)
status_range (Alphabet fault) = ((λ e. omega (arith, e)), lit≤ tt, lit≤ tt)
status_range (Adduct fault) = ((λ e. omega (arith, e)), lit≤ tt, lit≤ tt)
status_range (Rules fault) = ((λ e. omega (arith, e)), lit≤ tt, lit≤ tt)
status_range (After fault) = ((λ e. omega (arith, e)), lit≤ tt, lit≤ tt)
status_range NotInBox = ((λ e. omega (arith, e)), lit≤ tt, lit≤ tt)
status_range (Formula fault) = ((λ e. omega (arith, e)), lit≤ tt, lit≤ tt)
status_range NoIon = ((λ e. omega (arith, e)), lit≤ tt, lit≤ tt)
status_range (CandidateLimit peak) = ((λ e. omega (arith, e)), lit≤ tt, lit≤ tt)
status_range (Layer ion) = ((λ e. omega (arith, e)), lit≤ tt, lit≤ tt)
status_range (Certificate fault) = ((λ e. omega (arith, e)), lit≤ tt, lit≤ tt)
status_range (Rejected judgement) = ((λ e. omega (arith, e)), lit≤ tt, lit≤ tt)
status_range CertificateLimit = ((λ e. omega (arith, e)), lit≤ tt, lit≤ tt)

-- ---- the words

words_are_refused : (request : Result Request WordsFault) (fault : WordsFault) →
    RefusesWords request (Err (Words fault)) → IsErr request
words_are_refused (Ok request) fault refuses = absurd refuses
words_are_refused (Err other) fault refuses = refl

pub refused_words : (request : Result Request WordsFault) (told : Refusal) (status : ℕ) →
    RefusesWords request (Err told) → status ≡ status_of told → status ≡ 2 → IsErr request
refused_words request (Words fault) status refuses is two = words_are_refused request fault refuses
refused_words request (Input fault) status refuses is two =
    absurd ((status_range fault).0 (sym is ∙ two))
refused_words request (ReadFault name) status refuses is two = absurd (omega (arith, is, two))
refused_words request WriteFault status refuses is two = absurd (omega (arith, is, two))
refused_words request Memory status refuses is two = absurd (omega (arith, is, two))

status_of_words : (fault : WordsFault) →
    (status_of (of_words_fault fault) ≡ 2) ⊎ (status_of (of_words_fault fault) ≡ 9)
status_of_words words.Memory = inr refl
status_of_words fault = inl refl

two_or_nine : (fault : WordsFault) (status : ℕ) → status ≡ status_of (of_words_fault fault) →
    (status ≡ 2) ⊎ (status ≡ 9)
two_or_nine fault status is = elim (status_of_words fault) [
  | inl two ↦ inl (is ∙ two)
  | inr nine ↦ inr (is ∙ nine)
]

pub no_request : (request : Result Request WordsFault) (told : Refusal) (status : ℕ) →
    RefusesWords request (Err told) → status ≡ status_of told →
    IfErr request (λ fault. (status ≡ 2) ⊎ (status ≡ 9))
no_request (Ok request) told status refuses is = tt
no_request (Err fault) told status (inl same) is =
    two_or_nine fault status (is ∙ ap (λ (e : Result (Unit {0}) Refusal). status_of_result e) same)
no_request (Err fault) told status (inr memory) is =
    inr (is ∙ ap (λ (e : Result (Unit {0}) Refusal). status_of_result e) memory)

pub request_served : (request : Result Request WordsFault) (status : ℕ) → RefusesWords request (Ok tt) →
    IfErr request (λ fault. (status ≡ 2) ⊎ (status ≡ 9))
request_served (Ok request) status refuses = tt
request_served (Err fault) status (inl same) = cc
request_served (Err fault) status (inr memory) = cc

-- ---- the names asked

names_up_to : (answer : Asked Outcome) (before after : Outside) (ending : Ending) (status : ℕ) →
    EndsAs answer before after ending → status ≡ status_of_result ending → status ≢ 7 → status ≢ 9 →
    after.asked ≡ before.asked ++ answer.names
names_up_to answer before after (Ok done) status ends is seven nine = ends.1
names_up_to answer before after (Err (Words fault)) status ends is seven nine = ends.1
names_up_to answer before after (Err (Input fault)) status ends is seven nine = ends.1
names_up_to answer before after (Err (ReadFault name)) status ends is seven nine = absurd (seven is)
names_up_to answer before after (Err WriteFault) status ends is seven nine = ends.1
names_up_to answer before after (Err Memory) status ends is seven nine = absurd (nine is)

pub asked_up_to : (held : Option Files) (answer : Files → Asked Outcome) (before after : Outside) (ending : Ending)
    (status : ℕ) → IfSome held (λ files. EndsAs (answer files) before after ending) →
    status ≡ status_of_result ending → status ≢ 7 → status ≢ 9 →
    IfSome held (λ files. after.asked ≡ before.asked ++ (answer files).names)
asked_up_to held answer before after ending status ends is seven nine =
    if_some_map held _ _ (λ files end. names_up_to (answer files) before after ending status end is seven nine) ends

names_within : (answer : Asked Outcome) (before after : Outside) (ending : Ending) →
    EndsAs answer before after ending → (asked : ℕ) × (after.asked ≡ before.asked ++ take asked answer.names)
names_within answer before after (Ok done) ends = all_names answer.names before.asked after.asked ends.1
names_within answer before after (Err (Words fault)) ends = all_names answer.names before.asked after.asked ends.1
names_within answer before after (Err (Input fault)) ends = all_names answer.names before.asked after.asked ends.1
names_within answer before after (Err (ReadFault name)) ends = ends
names_within answer before after (Err WriteFault) ends = all_names answer.names before.asked after.asked ends.1
names_within answer before after (Err Memory) ends = ends.1

pub asked_within : (held : Option Files) (answer : Files → Asked Outcome) (before after : Outside) (ending : Ending) →
    IfSome held (λ files. EndsAs (answer files) before after ending) →
    IfSome held (λ files. (asked : ℕ) × (after.asked ≡ before.asked ++ take asked (answer files).names))
asked_within held answer before after ending ends =
    if_some_map held _ _ (λ files end. names_within (answer files) before after ending end) ends

-- ---- what was received

some_of : (result : Result Outcome Refusal) (before after : Option (List ℕ)) →
    IsOkAnd result (λ outcome. ReceivesSome outcome before after) → ReceivesSomeOf result before after
some_of (Ok outcome) before after some = some
some_of (Err refusal) before after some = absurd some

some_with : (answer : Asked Outcome) (before after : Outside) (told : Refusal) (status : ℕ) →
    EndsAs answer before after (Err told) → status ≡ status_of told → (status ≡ 8) ⊎ (status ≡ 9) →
    ReceivesSomeOf answer.result before.received after.received
some_with answer before after WriteFault status ends is which =
    some_of answer.result before.received after.received ends.0
some_with answer before after Memory status ends is which = ends.0
some_with answer before after (Words fault) status ends is (inl eight) = absurd (omega (arith, is, eight))
some_with answer before after (Words fault) status ends is (inr nine) = absurd (omega (arith, is, nine))
some_with answer before after (ReadFault name) status ends is (inl eight) = absurd (omega (arith, is, eight))
some_with answer before after (ReadFault name) status ends is (inr nine) = absurd (omega (arith, is, nine))
some_with answer before after (Input fault) status ends is (inl eight) =
    let range = status_range fault in absurd (omega (arith, is, eight, range.2))
some_with answer before after (Input fault) status ends is (inr nine) =
    let range = status_range fault in absurd (omega (arith, is, nine, range.2))

pub some_received : (held : Option Files) (answer : Files → Asked Outcome) (before after : Outside) (told : Refusal)
    (status : ℕ) → IfSome held (λ files. EndsAs (answer files) before after (Err told)) →
    status ≡ status_of told → (status ≡ 8) ⊎ (status ≡ 9) →
    IfSome held (λ files. ReceivesSomeOf (answer files).result before.received after.received)
some_received held answer before after told status ends is which =
    if_some_map held _ _ (λ files end. some_with (answer files) before after told status end is which) ends

-- ---- the note

noted_with : (answer : Asked Outcome) (before after : Outside) (told : Refusal) (status : ℕ)
    (nb : Option (List ℕ)) (fb : ℕ) (na : Option (List ℕ)) (fa : ℕ) → EndsAs answer before after (Err told) →
    IsPut (note_of told) nb fb na fa → status ≡ status_of told → status ≢ 7 → status ≢ 8 → status ≢ 9 →
    TellsNote nb fb na fa answer.result
noted_with answer before after (Words fault) status nb fb na fa ends put is seven eight nine =
    subst (λ (r : Result Outcome Refusal). TellsNote nb fb na fa r) (sym ends.0) put
noted_with answer before after (Input fault) status nb fb na fa ends put is seven eight nine =
    subst (λ (r : Result Outcome Refusal). TellsNote nb fb na fa r) (sym ends.0) put
noted_with answer before after (ReadFault name) status nb fb na fa ends put is seven eight nine = absurd (seven is)
noted_with answer before after WriteFault status nb fb na fa ends put is seven eight nine = absurd (eight is)
noted_with answer before after Memory status nb fb na fa ends put is seven eight nine = absurd (nine is)

pub noted : (held : Option Files) (answer : Files → Asked Outcome) (before after : Outside) (told : Refusal)
    (status : ℕ) (nb : Option (List ℕ)) (fb : ℕ) (na : Option (List ℕ)) (fa : ℕ) →
    IfSome held (λ files. EndsAs (answer files) before after (Err told)) →
    IsPut (note_of told) nb fb na fa → status ≡ status_of told → status ≢ 7 → status ≢ 8 → status ≢ 9 →
    IfSome held (λ files. TellsNote nb fb na fa (answer files).result)
noted held answer before after told status nb fb na fa ends put is seven eight nine =
    if_some_map held _ _ (λ files end. noted_with (answer files) before after told status nb fb na fa end put is
    seven eight nine) ends

silent_of : (result : Result Outcome Refusal) (P : Outcome → Type 0) (notes : Option (List ℕ)) (faults : ℕ) →
    IsOkAnd result P → TellsNote notes faults notes faults result
silent_of (Ok outcome) P notes faults some = (refl, refl)
silent_of (Err refusal) P notes faults some = absurd some

-- nothing is noted where the report is written
pub noted_nothing : (held : Option Files) (answer : Files → Asked Outcome) (before after : Outside)
    (notes : Option (List ℕ)) (faults : ℕ) → IfSome held (λ files. EndsAs (answer files) before after (Ok tt)) →
    IfSome held (λ files. TellsNote notes faults notes faults (answer files).result)
noted_nothing held answer before after notes faults ends =
    if_some_map held _ _ (λ files end. silent_of (answer files).result
    (λ outcome. ReceivesAll outcome before.received after.received × Holds outcome) notes faults end.0) ends

-- a status of 0 comes of no refusal
pub never_zero : (told : Refusal) (status : ℕ) → status ≡ status_of told → status ≡ 0 → ⊥
never_zero (Words fault) status is zero = omega (arith, is, zero)
never_zero (Input fault) status is zero = let range = status_range fault in omega (arith, is, zero, range.1)
never_zero (ReadFault name) status is zero = omega (arith, is, zero)
never_zero WriteFault status is zero = omega (arith, is, zero)
never_zero Memory status is zero = omega (arith, is, zero)

last_one : (names before after : Names) (i : ℕ) (name : List ℕ) → slice_get names i ≡ Some name →
    after ≡ before ++ take (i + 1) names → after ≡ (before ++ take i names) ++ name ∷ []
last_one names before after i name there asked =
    asked ∙ ap (λ ns. before ++ ns) (take_more names i name (slice_get_within names i name there)
    ∙ ap (λ n. take i names ++ n ∷ []) (get_or_from_slice_get names i name name there))
    ∙ sym (append_assoc before (take i names) (name ∷ []))

pub last_name : (names : Names) (before after : Outside) (told : Refusal) (status : ℕ)
    (nb : Option (List ℕ)) (fb : ℕ) (na : Option (List ℕ)) (fa : ℕ) → Shows names before after (Err told) →
    IsPut (note_of told) nb fb na fa → status ≡ status_of told → status ≡ 7 →
    TellsLastName after.asked nb fb na fa
last_name names before after (ReadFault name) status nb fb na fa shows put is seven = record {
  others = before.asked ++ take shows.asks.0 names;
  name = name;
  last = last_one names before.asked after.asked shows.asks.0 name shows.asks.1 shows.asks.2;
  told = put;
}
last_name names before after (Words fault) status nb fb na fa shows put is seven = absurd (omega (arith, is, seven))
last_name names before after (Input fault) status nb fb na fa shows put is seven =
    let range = status_range fault in absurd (omega (arith, is, seven, range.2))
last_name names before after WriteFault status nb fb na fa shows put is seven = absurd (omega (arith, is, seven))
last_name names before after Memory status nb fb na fa shows put is seven = absurd (omega (arith, is, seven))

pub write_note : (told : Refusal) (status : ℕ) (nb : Option (List ℕ)) (fb : ℕ) (na : Option (List ℕ)) (fa : ℕ) →
    IsPut (note_of told) nb fb na fa → status ≡ status_of told → status ≡ 8 → IsPut (note_of WriteFault) nb fb na fa
write_note WriteFault status nb fb na fa put is eight = put
write_note (Words fault) status nb fb na fa put is eight = absurd (omega (arith, is, eight))
write_note (Input fault) status nb fb na fa put is eight =
    let range = status_range fault in absurd (omega (arith, is, eight, range.2))
write_note (ReadFault name) status nb fb na fa put is eight = absurd (omega (arith, is, eight))
write_note Memory status nb fb na fa put is eight = absurd (omega (arith, is, eight))

pub memory_note : (told : Refusal) (status : ℕ) (nb : Option (List ℕ)) (fb : ℕ) (na : Option (List ℕ)) (fa : ℕ) →
    IsPut (note_of told) nb fb na fa → status ≡ status_of told → status ≡ 9 → IsPut (note_of Memory) nb fb na fa
memory_note Memory status nb fb na fa put is nine = put
memory_note (Words fault) status nb fb na fa put is nine = absurd (omega (arith, is, nine))
memory_note (Input fault) status nb fb na fa put is nine =
    let range = status_range fault in absurd (omega (arith, is, nine, range.2))
memory_note (ReadFault name) status nb fb na fa put is nine = absurd (omega (arith, is, nine))
memory_note WriteFault status nb fb na fa put is nine = absurd (omega (arith, is, nine))
