-- What a run shows at the outside, ending by ending.
use Rattle.std.proofs.Common.{◌≡◌, ℕ, List, [], take, ◌+◌, refl, sym, ap, subst, arith, inl, inr}
use Rattle.std.specs.Prelude.{Option, Some, None, Result, Ok, Err, MatchBool, ⊤}
use Rattle.std.proofs.lemmas.List.{append-nil}
use Rattle.std.specs.Io.KnownBytes.{append_known}
use Rattle.outside_ports.specs.Files.{Files}
use Rattle.command_words.specs.WordReading.{request_of}
use Rattle.command_words.specs.WordReading as words
use Rattle.command_words.specs.declared.request.Request.{Request}
use Rattle.command_words.specs.declared.fault.WordsFault.{WordsFault}
use Rattle.command_words.specs.declared.fault.WordsFault.TheVariants as words_fault
use Rattle.command_io.specs.Asked.{Asked, Names}
use Rattle.command_io.specs.Refusals.{of_words_fault}
use Rattle.command_io.specs.Parts.{AnswersAs, Ending, IsPart, OnlyReads, Puts}
use Rattle.command_io.specs.Parts.{Reads, Shelved}
use Rattle.command_io.specs.declared.refusal.Refusal.{Refusal}
use Rattle.command_io.specs.declared.refusal.Refusal.TheVariants.{Words, Input, ReadFault, WriteFault, Memory}
use Rattle.command_io.proofs.PartLaws.{all_names, if_some_map}
use Rattle.formula_reports.specs.Reports.{formulas_json}
use Rattle.formula_reports.specs.Reports.{formulas_report}
use Rattle.cover_reports.specs.Reports.{cover_json}
use Rattle.cover_reports.specs.Reports.{accepted_report, certificate_report, cover_report}
use Rattle.ranking_reports.specs.Reports.{rank_json}
use Rattle.ranking_reports.specs.Reports.{generate_report, rank_report}
use Rattle.isoform.specs.Answer.{Outcome, Formulas, Cover, Certified, Checked, Ranks, Generates, IsReport}
use Rattle.isoform.specs.Answer.{FormulasJson, CoverJson, RanksJson}
use Rattle.isoform.specs.Answer.{answer, answer_if, answer_of_request, file_names, names_if, names_of_request}
use Rattle.isoform.specs.Answer.{asked_as, result_as}
use Rattle.isoform.specs.Claims.{Holds}
use Rattle.isoform.specs.Outside.{EndsAs, IsPut, IsTold, NoWordsFault, Outside}
use Rattle.isoform.specs.Outside.{ReceivesSome, ReceivesSomeOf, RefusesWords, Serves, Shows, outside}

-- each outcome has a report
some_report : (outcome : Outcome) → (report : List ℕ) × IsReport outcome report
some_report (Formulas query) = (formulas_report query, refl)
some_report (Cover query) = (cover_report query, refl)
some_report (Certified query) = (certificate_report query, refl)
some_report (Checked query) = (accepted_report query.certificate, refl)
some_report (Ranks query) = (rank_report query, refl)
some_report (Generates query) = (generate_report query, refl)
some_report (FormulasJson query) = (formulas_json query, refl)
some_report (CoverJson query) = (cover_json query, refl)
some_report (RanksJson query) = (rank_json query, refl)

-- nothing more was received
append_known-nil : (known : Option (List ℕ)) → known ≡ append_known known []
append_known-nil None = refl
append_known-nil (Some bytes) = ap Some (sym (append-nil bytes))

nothing_received : (result : Result Outcome Refusal) (received : Option (List ℕ)) →
    ReceivesSomeOf result received received
nothing_received (Ok outcome) received =
    let some = some_report outcome in
    record { report = some.0; is_report = some.1; taken = 0; received = append_known-nil received }
nothing_received (Err refusal) received = refl

-- what was read is refused: nothing was written
unread_shows : {X : Type 0} (names before after : Names) (faults_before faults_after : ℕ) (received : Option (List ℕ))
    (out_faults : ℕ) (refusal : Refusal) → Reads {X = X} names before after faults_before faults_after (Err refusal) →
    Shows names (outside before faults_before received out_faults) (outside after faults_after received out_faults)
    (Err refusal)
unread_shows names before after fb fa received out_faults (Input fault) reads =
    record { asks = reads.asks; reads = reads.counts; writes = refl; receives = refl }
unread_shows names before after fb fa received out_faults (ReadFault name) reads =
    record { asks = reads.asks; reads = reads.counts; writes = refl; receives = refl }
unread_shows names before after fb fa received out_faults Memory reads =
    record { asks = reads.asks; reads = reads.counts; writes = refl; receives = tt }
unread_shows names before after fb fa received out_faults WriteFault reads = absurd reads.only_reads
unread_shows names before after fb fa received out_faults (Words fault) reads = absurd reads.only_reads

-- the same, as the answer says it
unread_ends : {X A : Type 0} (outcome : A → Outcome) (view : X → A) (expected : Asked A)
    (before after : Names) (faults_before faults_after : ℕ) (received : Option (List ℕ)) (out_faults : ℕ)
    (refusal : Refusal) → OnlyReads {X = X} (Err refusal) → AnswersAs view expected before after (Err refusal) →
    EndsAs (asked_as outcome expected) (outside before faults_before received out_faults)
    (outside after faults_after received out_faults) (Err refusal)
unread_ends outcome view expected before after fb fa received out_faults (Input fault) other answers =
    (ap (result_as outcome) answers.0, answers.1)
unread_ends outcome view expected before after fb fa received out_faults (ReadFault name) other answers = answers
unread_ends outcome view expected before after fb fa received out_faults Memory other answers =
    (nothing_received (result_as outcome expected.result) received, answers)
unread_ends outcome view expected before after fb fa received out_faults WriteFault other answers = absurd other
unread_ends outcome view expected before after fb fa received out_faults (Words fault) other answers = absurd other

-- what was read was served: the report was put, or some of it
written_shows : {X : Type 0} (names before after : Names) (faults_before faults_after : ℕ) (x : X) (text : List ℕ)
    (received_before received_after : Option (List ℕ)) (out_before out_after : ℕ) (ending : Ending) →
    Reads {X = X} names before after faults_before faults_after (Ok x) →
    Puts text received_before received_after out_before out_after ending →
    Shows names (outside before faults_before received_before out_before)
    (outside after faults_after received_after out_after) ending
written_shows names before after fb fa x text rb ra ob oa (Ok done) reads puts =
    record { asks = reads.asks; reads = reads.counts; writes = puts.1; receives = tt }
written_shows names before after fb fa x text rb ra ob oa (Err WriteFault) reads puts = record {
  asks = all_names names before after reads.asks;
  reads = reads.counts;
  writes = (puts.1, puts.2);
  receives = tt;
}
written_shows names before after fb fa x text rb ra ob oa (Err Memory) reads puts = record {
  asks = all_names names before after reads.asks;
  reads = omega (arith, reads.counts);
  writes = puts.1;
  receives = tt;
}
written_shows names before after fb fa x text rb ra ob oa (Err (Words fault)) reads puts = absurd puts
written_shows names before after fb fa x text rb ra ob oa (Err (Input fault)) reads puts = absurd puts
written_shows names before after fb fa x text rb ra ob oa (Err (ReadFault name)) reads puts = absurd puts

some_received : (outcome : Outcome) (text : List ℕ) (before after : Option (List ℕ)) → IsReport outcome text →
    ((taken : ℕ) × (after ≡ append_known before (take taken text))) → ReceivesSome outcome before after
some_received outcome text before after is taken =
    record { report = text; is_report = is; taken = taken.0; received = taken.1 }

-- the same, as the answer says it
written_ends : {X A : Type 0} (outcome : A → Outcome) (view : X → A) (expected : Asked A) (before after : Names)
    (faults_before faults_after : ℕ) (x : X) (text : List ℕ)
    (received_before received_after : Option (List ℕ)) (out_before out_after : ℕ) (ending : Ending) →
    AnswersAs view expected before after (Ok x) → Holds (outcome (view x)) → IsReport (outcome (view x)) text →
    Puts text received_before received_after out_before out_after ending →
    EndsAs (asked_as outcome expected) (outside before faults_before received_before out_before)
    (outside after faults_after received_after out_after) ending
written_ends outcome view expected before after fb fa x text rb ra ob oa (Ok done) answers holds is puts =
    (rw answers.0 (record { report = text; is_report = is; received = puts.0 }, holds), answers.1)
written_ends outcome view expected before after fb fa x text rb ra ob oa (Err WriteFault) answers holds is puts =
    (rw answers.0 (some_received (outcome (view x)) text rb ra is puts.0), answers.1)
written_ends outcome view expected before after fb fa x text rb ra ob oa (Err Memory) answers holds is puts = (
  rw answers.0 (some_received (outcome (view x)) text rb ra is puts.0),
  all_names expected.names before after answers.1,
)
written_ends outcome view expected before after fb fa x text rb ra ob oa (Err (Words fault)) answers holds is puts =
    absurd puts
written_ends outcome view expected before after fb fa x text rb ra ob oa (Err (Input fault)) answers holds is puts =
    absurd puts
written_ends outcome view expected before after fb fa x text rb ra ob oa (Err (ReadFault name)) answers holds is puts =
    absurd puts

-- what a request shows, its words show
pub words_show : (given : List (List ℕ)) (request : Request) (before after : Outside) (ending : Ending) →
    request_of given ≡ Ok request → Shows (names_of_request request) before after ending →
    Shows (file_names given) before after ending
words_show given request before after ending is shows =
    subst (λ (r : Result Request WordsFault). Shows (names_if r) before after ending) (sym is) shows

pub words_end : (given : List (List ℕ)) (files : Files) (request : Request) (before after : Outside) (ending : Ending) →
    request_of given ≡ Ok request → EndsAs (answer_of_request request files) before after ending →
    EndsAs (answer given files) before after ending
unfolding answer
words_end given files request before after ending is ends =
    subst (λ (r : Result Request WordsFault). EndsAs (answer_if r files) before after ending) (sym is) ends

-- no fault of the words comes of what reads, or of what writes
reads_no_words : (X : Type 0) (refusal : Refusal) → OnlyReads {X = X} (Err refusal) → NoWordsFault {X = Unit {0}} (Err refusal)
reads_no_words X (Words fault) only = absurd only
reads_no_words X (Input fault) only = tt
reads_no_words X (ReadFault name) only = tt
reads_no_words X WriteFault only = tt
reads_no_words X Memory only = tt

puts_no_words : (text : List ℕ) (before after : Option (List ℕ)) (faults_before faults_after : ℕ)
    (ending : Ending) → Puts text before after faults_before faults_after ending → NoWordsFault ending
puts_no_words text before after fb fa (Ok done) puts = tt
puts_no_words text before after fb fa (Err (Words fault)) puts = absurd puts
puts_no_words text before after fb fa (Err (Input fault)) puts = absurd puts
puts_no_words text before after fb fa (Err (ReadFault name)) puts = absurd puts
puts_no_words text before after fb fa (Err WriteFault) puts = tt
puts_no_words text before after fb fa (Err Memory) puts = tt

-- a request of which a part that reads is refused
pub unread_serves : {X A : Type 0} (outcome : A → Outcome) (view : X → A) (names : Names) (expected : Files → Asked A)
    (before after : Shelved) (received : Option (List ℕ)) (out_faults : ℕ) (refusal : Refusal) →
    IsPart {X = X} view names expected before after (Err refusal) →
    Serves names (λ files. asked_as outcome (expected files)) before.held after.held
    (outside before.asked before.faults received out_faults) (outside after.asked after.faults received out_faults)
    (Err refusal)
unread_serves {X = X} outcome view names expected before after received out_faults refusal part = record {
  held = part.held;
  words = reads_no_words X refusal part.reads.only_reads;
  shows = unread_shows names before.asked after.asked before.faults after.faults received out_faults refusal part.reads;
  answers = if_some_map before.held _ _ (λ files answers. unread_ends outcome view (expected files) before.asked
      after.asked before.faults after.faults received out_faults refusal part.reads.only_reads answers) part.answers;
}

-- a request that was read and is reported
pub written_serves : {X A : Type 0} (outcome : A → Outcome) (view : X → A) (names : Names) (expected : Files → Asked A)
    (before after : Shelved) (x : X) (text : List ℕ) (received_before received_after : Option (List ℕ))
    (out_before out_after : ℕ) (ending : Ending) → IsPart {X = X} view names expected before after (Ok x) →
    Holds (outcome (view x)) → IsReport (outcome (view x)) text →
    Puts text received_before received_after out_before out_after ending →
    Serves names (λ files. asked_as outcome (expected files)) before.held after.held
    (outside before.asked before.faults received_before out_before)
    (outside after.asked after.faults received_after out_after) ending
written_serves outcome view names expected before after x text rb ra ob oa ending part holds is puts = record {
  held = part.held;
  words = puts_no_words text rb ra ob oa ending puts;
  shows = written_shows names before.asked after.asked before.faults after.faults x text rb ra ob oa ending part.reads puts;
  answers = if_some_map before.held _ _ (λ files answers. written_ends outcome view (expected files) before.asked
      after.asked before.faults after.faults x text rb ra ob oa ending answers holds is puts) part.answers;
}

-- words that are a request are refused for no fault of their own
pub words_stand : (given : List (List ℕ)) (request : Request) (ending : Ending) → request_of given ≡ Ok request →
    NoWordsFault ending → RefusesWords (request_of given) ending
words_stand given request ending is served =
    subst (λ (r : Result Request WordsFault). RefusesWords r ending) (sym is) served

memory_refuses : (request : Result Request WordsFault) → RefusesWords request (Err Memory)
memory_refuses (Ok request) = tt
memory_refuses (Err fault) = inr refl

-- words that are refused are refused as their reading says
pub words_refused : (given : List (List ℕ)) (fault : WordsFault) →
    MatchBool (words.is_memory fault) ⊤ (request_of given ≡ Err fault) →
    RefusesWords (request_of given) (Err (of_words_fault fault))
words_refused given words_fault.Memory refused = memory_refuses (request_of given)
words_refused given fault refused =
    subst (λ (r : Result Request WordsFault). RefusesWords r (Err (of_words_fault fault))) (sym refused) (inl refl)

-- and they ask for no file
pub refused_words_show : (names : Names) (before : Outside) (fault : WordsFault) →
    Shows names before before (Err (of_words_fault fault))
refused_words_show names before words_fault.Memory = record {
  asks = (0, sym (append-nil before.asked));
  reads = omega arith;
  writes = refl;
  receives = tt;
}
refused_words_show names before fault =
    record { asks = (0, sym (append-nil before.asked)); reads = refl; writes = refl; receives = refl }

pub refused_words_end : (given : List (List ℕ)) (files : Files) (before : Outside) (fault : WordsFault) →
    MatchBool (words.is_memory fault) ⊤ (request_of given ≡ Err fault) →
    EndsAs (answer given files) before before (Err (of_words_fault fault))
unfolding answer
refused_words_end given files before words_fault.Memory refused =
    (nothing_received (answer given files).result before.received, (0, sym (append-nil before.asked)))
refused_words_end given files before fault refused =
    subst (λ (r : Result Request WordsFault). EndsAs (answer_if r files) before before (Err (of_words_fault fault)))
    (sym refused) (refl, sym (append-nil before.asked))

-- memory for the note ran out behind another refusal
memory_behind : (names : Names) (before after : Outside) (came : Refusal) → (came ≡ WriteFault → ⊥) →
    Shows names before after (Err came) → Shows names before after (Err Memory)
memory_behind names before after WriteFault other shows = absurd (other refl)
memory_behind names before after Memory other shows = shows
memory_behind names before after (ReadFault name) other shows = record {
  asks = (shows.asks.0 + 1, shows.asks.2);
  reads = shows.reads.1;
  writes = shows.writes;
  receives = tt;
}
memory_behind names before after (Words fault) other shows = record {
  asks = shows.asks;
  reads = omega (arith, shows.reads);
  writes = shows.writes;
  receives = tt;
}
memory_behind names before after (Input fault) other shows = record {
  asks = shows.asks;
  reads = omega (arith, shows.reads);
  writes = shows.writes;
  receives = tt;
}

-- what was told is shown
pub told_shows : (names : Names) (before after : Outside) (came told : Refusal) → IsTold came told →
    Shows names before after (Err came) → Shows names before after (Err told)
told_shows names before after came told (inl same) shows =
    subst (λ (r : Refusal). Shows names before after (Err r)) (sym same) shows
told_shows names before after came told (inr memory) shows =
    subst (λ (r : Refusal). Shows names before after (Err r)) (sym memory.0)
    (memory_behind names before after came memory.1 shows)

received_nothing : (result : Result Outcome Refusal) (before after : Option (List ℕ)) → after ≡ before →
    ReceivesSomeOf result before after
received_nothing result before after is =
    subst (λ (r : Option (List ℕ)). ReceivesSomeOf result before r) (sym is) (nothing_received result before)

memory_ends : (answered : Asked Outcome) (names : Names) (before after : Outside) (came : Refusal) →
    (came ≡ WriteFault → ⊥) → Shows names before after (Err came) → EndsAs answered before after (Err came) →
    EndsAs answered before after (Err Memory)
memory_ends answered names before after WriteFault other shows ends = absurd (other refl)
memory_ends answered names before after Memory other shows ends = ends
memory_ends answered names before after (ReadFault name) other shows ends =
    (received_nothing answered.result before.received after.received shows.receives, ends)
memory_ends answered names before after (Words fault) other shows ends = (
  received_nothing answered.result before.received after.received shows.receives,
  all_names answered.names before.asked after.asked ends.1,
)
memory_ends answered names before after (Input fault) other shows ends = (
  received_nothing answered.result before.received after.received shows.receives,
  all_names answered.names before.asked after.asked ends.1,
)

-- what was told refuses the words where what came does
pub told_refuses : (request : Result Request WordsFault) (came told : Refusal) → IsTold came told →
    RefusesWords request (Err came) → RefusesWords request (Err told)
told_refuses request came told (inl same) refuses =
    subst (λ (r : Refusal). RefusesWords request (Err r)) (sym same) refuses
told_refuses request came told (inr memory) refuses =
    subst (λ (r : Refusal). RefusesWords request (Err r)) (sym memory.0) (memory_refuses request)

-- the same, as the answer says it
pub told_ends : (answered : Asked Outcome) (names : Names) (before after : Outside) (came told : Refusal) →
    IsTold came told → Shows names before after (Err came) → EndsAs answered before after (Err came) →
    EndsAs answered before after (Err told)
told_ends answered names before after came told (inl same) shows ends =
    subst (λ (r : Refusal). EndsAs answered before after (Err r)) (sym same) ends
told_ends answered names before after came told (inr memory) shows ends =
    subst (λ (r : Refusal). EndsAs answered before after (Err r)) (sym memory.0)
    (memory_ends answered names before after came memory.1 shows ends)

-- a note was put, under other names of the same values
pub put_as : {M : Type 0} (written : M → Option (List ℕ)) (faults : M → ℕ) (before middle after : M)
    (told note : List ℕ) → after ≡ middle → told ≡ note →
    IsPut told (written before) (faults before) (written middle) (faults middle) →
    IsPut note (written before) (faults before) (written after) (faults after)
put_as written faults before middle after told note same is put =
    subst (λ (n : List ℕ). IsPut n (written before) (faults before) (written after) (faults after)) is
    (subst (λ m. IsPut told (written before) (faults before) (written m) (faults m)) (sym same) put)
