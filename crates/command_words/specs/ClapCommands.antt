-- Definitions that proofs use: the clap command of a first word, and the rows that clap makes of uses.
use Rattle.std.specs.Prelude.{Bool, true, false, List, [], ◌∷◌, find, if◌then◌else◌, map, option_and_then, slice_get, Option, Some, None}
use Rattle.std.specs.Str.{bytes_eq}
use Rattle.clap.specs.Walk.{Row, Rule, Text}
use Rattle.clap.specs.Simple.{App, filled, new_rule, new_shape}
use Rattle.clap.specs.declared.builder.action.ArgAction.{ArgAction}
use Rattle.clap.specs.declared.builder.action.ArgAction.TheVariants.{Set, SetTrue}
use Rattle.clap.specs.declared.builder.value_parser.Reading.TheVariants.{AsWritten}
use Rattle.clap.specs.declared.parser.matches.ValueSource.{ValueSource}
use Rattle.clap.specs.declared.parser.matches.ValueSource.TheVariants.{CommandLine}
use Rattle.clap.specs.declared.error.kind.ErrorKind.{ErrorKind}
use Rattle.clap.specs.declared.error.kind.ErrorKind.TheVariants.{OutOfMemory}
use Rattle.command_words.specs.Uses.{Argument, Use}
use Rattle.command_words.specs.declared.fault.WordsFault.{WordsFault}
use Rattle.command_words.specs.declared.fault.WordsFault.TheVariants.{Words, Memory}

-- what clap does at a use: it sets a flag, or takes one value
abbrev pub action_of : Bool → ArgAction
action_of true = SetTrue
action_of false = Set

-- an option that is a flag, or takes one value
abbrev pub option_rule : Argument → Rule
option_rule argument =
    record (new_rule argument.0) { long = Some argument.0; action = Some (action_of argument.1) }

-- the same as clap builds it
abbrev pub built_rule : Argument → Rule
built_rule argument = filled (option_rule argument)

-- a command without help, with these options
abbrev pub command_app : Text → List Argument → App
command_app first arguments = record {
  top = record (new_shape first) { rules = map option_rule arguments; disable_help_flag = true };
  subs = [];
}

-- what clap finds for a use
abbrev pub row_of_use : Use → Row
row_of_use given = record {
  id = given.0;
  values = given.1 ∷ [];
  count = None;
  source = Some CommandLine;
  reading = AsWritten;
}

-- a value that comes from the words, and is no default
abbrev pub is_from_words : Option ValueSource → Bool
is_from_words (Some CommandLine) = true
is_from_words _ = false

abbrev pub row_given : Row → Option Text
row_given row = if is_from_words row.source then slice_get row.values 0 else None

-- the value that the words give to the option of a name
abbrev pub given_in : List Row → Text → Option Text
given_in rows name = option_and_then row_given (find (λ row. bytes_eq row.id name) rows)

-- why words are no request where clap fails by an error of this kind
abbrev pub parse_fault : ErrorKind → WordsFault
parse_fault OutOfMemory = Memory
parse_fault _ = Words
