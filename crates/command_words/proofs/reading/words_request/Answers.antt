use Rattle.std.proofs.Common.{◌≡◌, ◌∙◌, None, Some, false, length, map, rules, string_bytes, subst, sym, true}
use Rattle.std.proofs.lemmas.List.Folds.{list_all-map}
use Rattle.std.proofs.lemmas.Result.{err_from_is_err_and}
use Rattle.reader_answers.specs.Answers.{Gives}
use Rattle.clap.specs.Words.{found_of}
use Rattle.command_words.specs.Options.{command_of}
use Rattle.command_words.specs.WordReading.{is_memory, is_readable}
use Rattle.command_words.proofs.AskedRequests.{no_words, request_of-matches, request_of-no_command, request_of-no_uses, unread_answer, unreadable}
use Rattle.command_words.proofs.reading.words_request.Goals as goal

pub returns-in_default : goal.returns-in_default
returns-in_default c =
    let none : length c.args.words.now ≡ 0 = search rules in
    no_words c.args.words.now none

pub returns-in_default-of : goal.returns-in_default-of
returns-in_default-of c =
    let named : command_of (string_bytes c.in-Some.first.now) ≡ None = search rules in
    rw c.in-Some.ensures.cases.0 (request_of-no_command (string_bytes c.in-Some.first.now)
    (map string_bytes c.in-Some.rest.now) named)

pub returns-then-not-are_readable : goal.returns-then-not-are_readable
returns-then-not-are_readable c =
    let named : command_of (string_bytes c.in-Some.first.now) ≡ Some c.in-Some-of.command = search rules in
    let bad : c.are_readable.result ≡ false = search rules in
    rw c.in-Some.ensures.cases.0 (request_of-no_uses (string_bytes c.in-Some.first.now)
    (map string_bytes c.in-Some.rest.now) c.in-Some-of.command named
    (unreadable c.in-Some-of.command (map string_bytes c.in-Some.rest.now)
    (list_all-map is_readable string_bytes c.in-Some.rest.now ∙ sym c.are_readable.ensures ∙ bad)))

pub matches_of-requires : goal.matches_of-requires
matches_of-requires c =
    let good : c.are_readable.result ≡ true = search rules in
    rw c.in-Some.ensures.cases.0 (record {
      readable = list_all-map is_readable string_bytes c.in-Some.rest.now
          ∙ sym c.are_readable.ensures ∙ good;
    })

pub returns-in_err-matches : goal.returns-in_err-matches
returns-in_err-matches c =
    let named : command_of (string_bytes c.in-Some.first.now) ≡ Some c.in-Some-of.command = search rules in
    let given = err_from_is_err_and c.from_residual.result c.from_residual.ensures.1 in
    let unread = rw c.in-Some.ensures.cases.0 at c.in_err-matches.ensures.unread in
    rw (c.in-Some.ensures.cases.0, given.1, given.2)
    (unread_answer (string_bytes c.in-Some.first.now)
    (map string_bytes c.in-Some.rest.now) c.in-Some-of.command c.in_err-matches.field-0.0 named unread)

pub returns : goal.returns
returns c =
    let named : command_of (string_bytes c.in-Some.first.now) ≡ Some c.in-Some-of.command = search rules in
    let words_is = c.in-Some.ensures.cases.0 in
    let found = rw words_is at c.in_ok-matches.ensures.read in
    rw words_is (subst (Gives is_memory c.matched_request.result)
    (request_of-matches (string_bytes c.in-Some.first.now) (map string_bytes c.in-Some.rest.now)
    c.in-Some-of.command found.0 (found_of c.in_ok-matches.matches) named found.1 found.2)
    c.matched_request.ensures)
