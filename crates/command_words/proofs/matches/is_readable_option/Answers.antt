use Rattle.std.proofs.Common.{◌≡◌, ◌∙◌, ◌==◌, ap, length, not, rules, sym}
use Rattle.std.proofs.lemmas.List.{take_rest}
use Rattle.command_words.specs.Uses.{is_value}
use Rattle.command_words.proofs.WordUses.{option-bare, option-equals}
use Rattle.command_words.proofs.matches.is_readable_option.Goals as goal

pub returns-in-Some : goal.returns-in-Some
returns-in-Some c = c.is_value.ensures ∙ ap is_value (take_rest c.args.option.now _)
    ∙ sym (option-equals c.args.option.now c.in-Some.at (sym c.equals_at.ensures ∙ c.in-Some.is))

pub returns-in-None : goal.returns-in-None
returns-in-None c =
    let empty : c.is_empty.result ≡ (length c.args.option.now == 0) = search rules in
    ap not empty ∙ sym (option-bare c.args.option.now (sym c.equals_at.ensures ∙ c.in-None.is))
