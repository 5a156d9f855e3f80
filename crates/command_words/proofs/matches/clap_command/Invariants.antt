use Rattle.std.proofs.Common.{◌≡◌, map, take}
use Rattle.clap.specs.Words.{app_of}
use Rattle.command_words.specs.ClapCommands.{command_app}
use Rattle.command_words.specs.Options.{command_word, is_flag, name}
use Rattle.command_words.proofs.matches.clap_command.Given as goal

abbrev pub invariant-loop-option : goal.invariant-loop-option
invariant-loop-option l = app_of l.clap ≡ command_app (command_word l.command)
    (map (λ option. (name option, is_flag l.command option)) (take l.option-index l.option-items))
