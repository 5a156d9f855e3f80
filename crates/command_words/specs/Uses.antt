-- What words say: which option stands with which value. A word is the list of its bytes.
use Rattle.std.specs.Prelude.{◌==◌, ◌≡◌, ◌⊎◌, Bool, true, false, not, List, [], ◌∷◌, ◌++◌, codes, map, find}
use Rattle.std.specs.Prelude.{Option, Some, None, option_map, IsTrue, ⊤}
use Rattle.std.specs.List.{list_any}
use Rattle.std.specs.Str.{bytes_eq}
use Rattle.command_words.specs.Options.{Bytes, hyphens, is_flag, name, options}
use Rattle.command_words.specs.declared.commands.CommandName.{CommandName}
use Rattle.command_words.specs.declared.options.OptionName.{OptionName}

-- the name of an option of a command, and whether it is a flag there
abbrev pub Argument : Type 0
Argument = Bytes × Bool

-- the options of a command
abbrev pub arguments : CommandName → List Argument
arguments command = map (λ option. (name option, is_flag command option)) (options command)

-- of the option of this name, whether it is a flag
abbrev pub is_flag_of : List Argument → Bytes → Option Bool
is_flag_of arguments name =
    option_map (λ argument. argument.1) (find (λ argument. bytes_eq argument.0 name) arguments)

-- the name of an option, and the value that it is given
abbrev pub Use : Type 0
Use = Bytes × Bytes

-- a value is not empty, and does not begin with a hyphen
abbrev pub is_value : Bytes → Bool
is_value [] = false
is_value (first ∷ rest) = not (first == 45)

-- the value of a flag that is given
abbrev pub flag_value : Bytes
flag_value = codes "true"

-- The words begin with this use and the rest stands behind it, by whether the option is a flag: a flag as `--name`,
-- another option as `--name value`, or as `--name=value` in one word.
abbrev pub BeginsWith : Option Bool → Use → List Bytes → List Bytes → Type 0
BeginsWith None given rest words = ⊥
BeginsWith (Some true) given rest words = (given.1 ≡ flag_value) × (words ≡ (hyphens ++ given.0) ∷ rest)
BeginsWith (Some false) given rest words = IsTrue (is_value given.1)
    × ((words ≡ (hyphens ++ given.0) ∷ given.1 ∷ rest) ⊎ (words ≡ (hyphens ++ given.0 ++ 61 ∷ given.1) ∷ rest))

-- the words are these uses of these options, one after another
abbrev pub Says : List Argument → List Use → List Bytes → Type 0
Says arguments [] words = words ≡ []
Says arguments (given ∷ uses) words = (rest : List Bytes)
    × BeginsWith (is_flag_of arguments given.0) given rest words × Says arguments uses rest

-- one of the uses is of this name
abbrev pub has_use : List Use → Bytes → Bool
has_use uses name = list_any (λ given. bytes_eq given.0 name) uses

-- each name stands in one of the uses at most
abbrev pub AreOnce : List Use → Type 0
AreOnce [] = ⊤
AreOnce (given ∷ uses) = (has_use uses given.0 ≡ false) × AreOnce uses

-- the words give options of a command values, each at most once: they are these uses, one after another
pub record GivesValues (command : CommandName) (uses : List Use) (words : List Bytes) : Type 0 where
  pub says : Says (arguments command) uses words
  pub once : AreOnce uses

-- the value that uses give to the option of a name
abbrev pub value_in : List Use → Bytes → Option Bytes
value_in uses name = option_map (λ given. given.1) (find (λ given. bytes_eq given.0 name) uses)

-- the value that uses give to an option
abbrev pub value_of : List Use → OptionName → Option Bytes
value_of uses option = value_in uses (name option)
