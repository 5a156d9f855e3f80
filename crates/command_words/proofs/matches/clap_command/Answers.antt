use Rattle.std.proofs.Common.{◌∙◌, ap, ap₂, sym}
use Rattle.std.proofs.lemmas.List.{map_more}
use Rattle.clap.specs.Simple.{with_rule}
use Rattle.command_words.specs.ClapCommands.{command_app}
use Rattle.command_words.specs.Options.{command_word, is_flag, name}
use Rattle.command_words.specs.declared.options.OptionName.TheVariants.{Table}
use Rattle.command_words.proofs.OptionRules.{command_app-more}
use Rattle.command_words.proofs.matches.clap_command.Goals as goal

pub loop-option-preserved : goal.loop-option-preserved
loop-option-preserved c =
    c.in_ok-clap.ensures.shape c.clap_option.ensures.local ∙ ap₂ with_rule c.loop-option.invariant c.clap_option.ensures.rule
    ∙ command_app-more (command_word c.args.command) _ _
    ∙ ap (command_app (command_word c.args.command)) (sym (map_more
    (λ option. (name option, is_flag c.args.command option)) c.options-option-items.result.now
    c.loop-option.option-index Table c.loop-option-test.true))
