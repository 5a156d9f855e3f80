use Rattle.std.proofs.Common.{refl}
use Rattle.std.specs.Prelude.{Ok, Err, map, string_bytes}
use Rattle.command_words.specs.WordReading.{request_of}
use Rattle.command_io.proofs.PartLaws.{all_names, if_some_map}
use Rattle.isoform.specs.Answer.{answer}
use Rattle.isoform.specs.Outside.{ReceivesAll, outside}
use Rattle.isoform.proofs.CertificateRuns.{run_certifies, run_checks}
use Rattle.isoform.proofs.Endings.{told_ends, told_refuses, told_shows}
use Rattle.isoform.proofs.RunClauses.{asked_up_to, asked_within, last_name, memory_note, never_zero, no_request}
use Rattle.isoform.proofs.RunClauses.{noted, noted_nothing, refused_words, request_served, some_received, write_note}
use Rattle.isoform.proofs.run.run.Goals as goal

pub returns-in-Err-clause-runs : goal.returns-in-Err-clause-runs
returns-in-Err-clause-runs g c =
    let told = c.refuse.ensures in
    record {
      ending = Err told.0;
      status_is = told.2;
      words = told_refuses _ c.in-Err.refusal told.0 told.1 c.in-Err.ensures.words;
      shows = told_shows _ _ _ c.in-Err.refusal told.0 told.1 c.in-Err.ensures.shows;
      answers = if_some_map (g.H.Shelf.held c.args.shelf.now) _ _
          (λ files ends. told_ends _ _ _ _ c.in-Err.refusal told.0 told.1 c.in-Err.ensures.shows ends)
          c.in-Err.ensures.answers;
      tells = told.3;
    }

pub returns-in-Err-clause-refused_words : goal.returns-in-Err-clause-refused_words
returns-in-Err-clause-refused_words g c =
    let told = c.refuse.ensures in
    refused_words _ told.0 c.refuse.result
    (told_refuses _ c.in-Err.refusal told.0 told.1 c.in-Err.ensures.words) told.2

pub returns-in-Err-clause-no_request : goal.returns-in-Err-clause-no_request
returns-in-Err-clause-no_request g c =
    let told = c.refuse.ensures in
    no_request (request_of (map string_bytes c.args.words.now.items)) told.0 c.refuse.result
    (told_refuses _ c.in-Err.refusal told.0 told.1 c.in-Err.ensures.words) told.2

pub returns-in-Err-clause-asked_up_to : goal.returns-in-Err-clause-asked_up_to
returns-in-Err-clause-asked_up_to g c =
    let told = c.refuse.ensures in
    let before = outside (g.H.Shelf.asked c.args.shelf.now) (g.H.Shelf.faults c.args.shelf.now)
    (g.O.Sink.written c.args.out.now) (g.O.Sink.faults c.args.out.now) in
    let after = outside (g.H.Shelf.asked c.serve.new.shelf) (g.H.Shelf.faults c.serve.new.shelf)
    (g.O.Sink.written c.serve.new.out) (g.O.Sink.faults c.serve.new.out) in
    asked_up_to (g.H.Shelf.held c.args.shelf.now) (answer (map string_bytes c.args.words.now.items)) before after
    (Err told.0) c.refuse.result
    (if_some_map (g.H.Shelf.held c.args.shelf.now) _ _
    (λ files ends. told_ends _ _ _ _ c.in-Err.refusal told.0 told.1 c.in-Err.ensures.shows ends)
    c.in-Err.ensures.answers) told.2

pub returns-in-Err-clause-asked_within : goal.returns-in-Err-clause-asked_within
returns-in-Err-clause-asked_within g c =
    let told = c.refuse.ensures in
    let before = outside (g.H.Shelf.asked c.args.shelf.now) (g.H.Shelf.faults c.args.shelf.now)
    (g.O.Sink.written c.args.out.now) (g.O.Sink.faults c.args.out.now) in
    let after = outside (g.H.Shelf.asked c.serve.new.shelf) (g.H.Shelf.faults c.serve.new.shelf)
    (g.O.Sink.written c.serve.new.out) (g.O.Sink.faults c.serve.new.out) in
    asked_within (g.H.Shelf.held c.args.shelf.now) (answer (map string_bytes c.args.words.now.items)) before after
    (Err told.0)
    (if_some_map (g.H.Shelf.held c.args.shelf.now) _ _
    (λ files ends. told_ends _ _ _ _ c.in-Err.refusal told.0 told.1 c.in-Err.ensures.shows ends)
    c.in-Err.ensures.answers)

pub returns-in-Err-clause-some_received : goal.returns-in-Err-clause-some_received
returns-in-Err-clause-some_received g c =
    let told = c.refuse.ensures in
    let before = outside (g.H.Shelf.asked c.args.shelf.now) (g.H.Shelf.faults c.args.shelf.now)
    (g.O.Sink.written c.args.out.now) (g.O.Sink.faults c.args.out.now) in
    let after = outside (g.H.Shelf.asked c.serve.new.shelf) (g.H.Shelf.faults c.serve.new.shelf)
    (g.O.Sink.written c.serve.new.out) (g.O.Sink.faults c.serve.new.out) in
    some_received (g.H.Shelf.held c.args.shelf.now) (answer (map string_bytes c.args.words.now.items)) before after
    told.0 c.refuse.result
    (if_some_map (g.H.Shelf.held c.args.shelf.now) _ _
    (λ files ends. told_ends _ _ _ _ c.in-Err.refusal told.0 told.1 c.in-Err.ensures.shows ends)
    c.in-Err.ensures.answers) told.2

pub returns-in-Err-clause-noted : goal.returns-in-Err-clause-noted
returns-in-Err-clause-noted g c =
    let told = c.refuse.ensures in
    let before = outside (g.H.Shelf.asked c.args.shelf.now) (g.H.Shelf.faults c.args.shelf.now)
    (g.O.Sink.written c.args.out.now) (g.O.Sink.faults c.args.out.now) in
    let after = outside (g.H.Shelf.asked c.serve.new.shelf) (g.H.Shelf.faults c.serve.new.shelf)
    (g.O.Sink.written c.serve.new.out) (g.O.Sink.faults c.serve.new.out) in
    noted (g.H.Shelf.held c.args.shelf.now) (answer (map string_bytes c.args.words.now.items)) before after
    told.0 c.refuse.result _ _ _ _
    (if_some_map (g.H.Shelf.held c.args.shelf.now) _ _
    (λ files ends. told_ends _ _ _ _ c.in-Err.refusal told.0 told.1 c.in-Err.ensures.shows ends)
    c.in-Err.ensures.answers) told.3 told.2

pub returns-in-Err-clause-silent : goal.returns-in-Err-clause-silent
returns-in-Err-clause-silent g c = λ zero.
    absurd (never_zero c.refuse.ensures.0 c.refuse.result c.refuse.ensures.2 zero)

pub returns-in-Err-clause-last_name : goal.returns-in-Err-clause-last_name
returns-in-Err-clause-last_name g c =
    let told = c.refuse.ensures in
    last_name _ _ _ told.0 c.refuse.result _ _ _ _
    (told_shows _ _ _ c.in-Err.refusal told.0 told.1 c.in-Err.ensures.shows) told.3 told.2

pub returns-in-Err-clause-write_note : goal.returns-in-Err-clause-write_note
returns-in-Err-clause-write_note g c =
    let told = c.refuse.ensures in write_note told.0 c.refuse.result _ _ _ _ told.3 told.2

pub returns-in-Err-clause-memory_note : goal.returns-in-Err-clause-memory_note
returns-in-Err-clause-memory_note g c =
    let told = c.refuse.ensures in memory_note told.0 c.refuse.result _ _ _ _ told.3 told.2

pub returns-in-Ok-clause-runs : goal.returns-in-Ok-clause-runs
returns-in-Ok-clause-runs g c = record {
  ending = Ok tt;
  status_is = refl;
  words = c.in-Ok.ensures.words;
  shows = c.in-Ok.ensures.shows;
  answers = c.in-Ok.ensures.answers;
  tells = (refl, refl);
}

pub returns-in-Ok-clause-asked_up_to : goal.returns-in-Ok-clause-asked_up_to
returns-in-Ok-clause-asked_up_to g c =
    let before = outside (g.H.Shelf.asked c.args.shelf.now) (g.H.Shelf.faults c.args.shelf.now)
    (g.O.Sink.written c.args.out.now) (g.O.Sink.faults c.args.out.now) in
    let after = outside (g.H.Shelf.asked c.serve.new.shelf) (g.H.Shelf.faults c.serve.new.shelf)
    (g.O.Sink.written c.serve.new.out) (g.O.Sink.faults c.serve.new.out) in
    asked_up_to (g.H.Shelf.held c.args.shelf.now) (answer (map string_bytes c.args.words.now.items)) before after
    (Ok tt) 0 c.in-Ok.ensures.answers refl

pub returns-in-Ok-clause-asked_within : goal.returns-in-Ok-clause-asked_within
returns-in-Ok-clause-asked_within g c =
    let before = outside (g.H.Shelf.asked c.args.shelf.now) (g.H.Shelf.faults c.args.shelf.now)
    (g.O.Sink.written c.args.out.now) (g.O.Sink.faults c.args.out.now) in
    let after = outside (g.H.Shelf.asked c.serve.new.shelf) (g.H.Shelf.faults c.serve.new.shelf)
    (g.O.Sink.written c.serve.new.out) (g.O.Sink.faults c.serve.new.out) in
    asked_within (g.H.Shelf.held c.args.shelf.now) (answer (map string_bytes c.args.words.now.items)) before after
    (Ok tt) c.in-Ok.ensures.answers

pub returns-in-Ok-clause-no_request : goal.returns-in-Ok-clause-no_request
returns-in-Ok-clause-no_request g c =
    request_served (request_of (map string_bytes c.args.words.now.items)) 0 c.in-Ok.ensures.words

pub returns-in-Ok-clause-noted : goal.returns-in-Ok-clause-noted
returns-in-Ok-clause-noted g c = λ _ _ _.
    let before = outside (g.H.Shelf.asked c.args.shelf.now) (g.H.Shelf.faults c.args.shelf.now)
    (g.O.Sink.written c.args.out.now) (g.O.Sink.faults c.args.out.now) in
    let after = outside (g.H.Shelf.asked c.serve.new.shelf) (g.H.Shelf.faults c.serve.new.shelf)
    (g.O.Sink.written c.serve.new.out) (g.O.Sink.faults c.serve.new.out) in
    noted_nothing (g.H.Shelf.held c.args.shelf.now) (answer (map string_bytes c.args.words.now.items)) before after _ _
    c.in-Ok.ensures.answers

pub returns-in-Ok-clause-asked : goal.returns-in-Ok-clause-asked
returns-in-Ok-clause-asked g c = all_names _ _ _ c.in-Ok.ensures.shows.asks

pub returns-in-Ok-clause-true_check : goal.returns-in-Ok-clause-true_check
returns-in-Ok-clause-true_check g c = λ zero.
    if_some_map (g.H.Shelf.held c.args.shelf.now) _ _
    (λ files ends. run_checks (map string_bytes c.args.words.now.items) files
    (λ outcome. ReceivesAll outcome (g.O.Sink.written c.args.out.now) (g.O.Sink.written c.serve.new.out)) ends.0)
    c.in-Ok.ensures.answers

pub returns-in-Ok-clause-accepted_later : goal.returns-in-Ok-clause-accepted_later
returns-in-Ok-clause-accepted_later g c = λ zero.
    if_some_map (g.H.Shelf.held c.args.shelf.now) _ _
    (λ files ends. run_certifies (map string_bytes c.args.words.now.items) files
    (λ outcome. ReceivesAll outcome (g.O.Sink.written c.args.out.now) (g.O.Sink.written c.serve.new.out)) ends.0)
    c.in-Ok.ensures.answers

pub returns-in-Err-clause-true_check : goal.returns-in-Err-clause-true_check
returns-in-Err-clause-true_check g c = λ zero.
    absurd (never_zero c.refuse.ensures.0 c.refuse.result c.refuse.ensures.2 zero)

pub returns-in-Err-clause-accepted_later : goal.returns-in-Err-clause-accepted_later
returns-in-Err-clause-accepted_later g c = λ zero.
    absurd (never_zero c.refuse.ensures.0 c.refuse.result c.refuse.ensures.2 zero)
