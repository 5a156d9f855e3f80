use Rattle.std.proofs.Common.{◌≡◌, ◌∙◌, ◌⊎◌, Global, None, ap, drop, inl, inr, map, rules, string_bytes, subst, sym}
use Rattle.std.proofs.lemmas.List.Sums.{AllPass-from_list_all}
use Rattle.std.proofs.lemmas.Result.{err_from_is_err_and}
use Rattle.clap.specs.Words.{app_of, fault_of, is_simple, is_simple_and_free, kind_of, matches_of, rows_of, found_of, IsAmong}
use Rattle.clap.specs.declared.error.kind.ErrorKind.TheVariants.{OutOfMemory}
use Rattle.command_words.specs.ClapCommands.{command_app}
use Rattle.command_words.specs.Options.{command_word}
use Rattle.command_words.specs.Uses.{arguments}
use Rattle.command_words.specs.WordReading.{is_readable, uses_of}
use Rattle.command_words.proofs.ClapWalk.{fault_of_error, parsed_uses, unparsed_uses}
use Rattle.command_words.proofs.OptionRules.{is_simple-command_app, is_simple_and_free-command_app}
use Rattle.command_words.proofs.matches.matches_of.Goals as goal

pub returns-clause-read : goal.returns-clause-read
returns-clause-read c =
    let app_is : app_of c.in_ok-clap_command.field-0 ≡ command_app (command_word c.args.command)
    (arguments c.args.command) = search rules in
    let words = map (string_bytes {Z = Global}) c.args.words.now in
    let simple = ap is_simple app_is ∙ is_simple-command_app (command_word c.args.command) (arguments c.args.command) in
    let free = ap is_simple_and_free app_is ∙ is_simple_and_free-command_app (command_word c.args.command)
    (arguments c.args.command) in
    parsed_uses (command_word c.args.command) (arguments c.args.command) words (AllPass-from_list_all is_readable
    (drop 1 words) c.requires.readable)
    (sym (ap (λ app. fault_of app words) app_is) ∙ c.in_ok-matches.ensures.kinds free)
    (rows_of (found_of c.in_ok-matches.matches))
    ((c.in_ok-matches.ensures.matches simple).0 ∙ ap (λ app. matches_of app words) app_is)

pub returns-in_err-matches-clause-unread : goal.returns-in_err-matches-clause-unread
returns-in_err-matches-clause-unread c =
    let app_is : app_of c.in_ok-clap_command.field-0 ≡ command_app (command_word c.args.command)
    (arguments c.args.command) = search rules in
    let words = map (string_bytes {Z = Global}) c.args.words.now in
    let error = c.in_err-matches.field-0.0 in
    let free = ap is_simple_and_free app_is ∙ is_simple_and_free-command_app (command_word c.args.command)
    (arguments c.args.command) in
    let given = err_from_is_err_and c.from_residual-in_err-matches.result c.from_residual-in_err-matches.ensures.1 in
    let cause : (kind_of error ≡ OutOfMemory) ⊎ (uses_of (arguments c.args.command) (drop 1 words) ≡ None) =
    elim (c.in_err-matches.ensures.kinds free) [
      | inl memory ↦ inl memory
      | inr among ↦ inr (unparsed_uses (command_word c.args.command) (arguments c.args.command) words
          (AllPass-from_list_all is_readable (drop 1 words) c.requires.readable) (kind_of error)
          (subst (λ app. IsAmong (kind_of error) (fault_of app words)) app_is among))
    ] in
    rw (given.1, given.2) (fault_of_error (kind_of error) _ cause)
