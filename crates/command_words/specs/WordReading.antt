-- Definitions that proofs use: the one answer that `Asks` allows, computed from the words. The layers above compute
-- with `request_of`.
use Rattle.std.specs.Prelude.{ℕ, Bool, true, false, not, ◌&&◌, List, [], ◌∷◌, ◌++◌, Option, Some, None, is_some, Result, Ok, Err, if◌then◌else◌}
use Rattle.clap.specs.Lexer.{long_of, long_of_rest}
use Rattle.clap.specs.Walk.{rows_of}
use Rattle.clap.specs.declared.parser.matches.Found.{Found}
use Rattle.reader_answers.specs.Answers.{or_fault, ◌>>=◌}
use Rattle.command_words.specs.ClapCommands.{given_in}
use Rattle.command_words.specs.Options.{Bytes, command_of, name, number}
use Rattle.command_words.specs.Requests.{Values, first_outside, go_together, number_of, number_or_default, text_of, tolerance_of}
use Rattle.command_words.specs.Uses.{Argument, Use, arguments, flag_value, has_use, is_flag_of, is_value, value_of}
use Rattle.command_words.specs.declared.commands.CommandName.{CommandName}
use Rattle.command_words.specs.declared.commands.CommandName.TheVariants as command
use Rattle.command_words.specs.declared.fault.WordsFault.{WordsFault}
use Rattle.command_words.specs.declared.fault.WordsFault.TheVariants.{Words, Value, Memory}
use Rattle.command_words.specs.declared.options.OptionName.{OptionName}
use Rattle.command_words.specs.declared.options.OptionName.TheVariants as option
use Rattle.command_words.specs.declared.request.Request.{Request}
use Rattle.command_words.specs.declared.request.Request.TheVariants.{Decompose, Envelope, Rank, Check, Generate}

abbrev pub is_memory : WordsFault → Bool
is_memory Memory = true
is_memory _ = false

-- `--name` with or without a value behind `=`, which can be one, or a word that can be a value
abbrev pub is_readable_as : Option (Bytes × Option Bytes) → Bytes → Bool
is_readable_as (Some (name, Some value)) word = is_value value
is_readable_as (Some (name, None)) word = true
is_readable_as None word = is_value word

abbrev pub is_readable : Bytes → Bool
is_readable word = is_readable_as (long_of word) word

-- what stands behind two hyphens is a name, with or without a value behind `=`
abbrev pub is_readable_option : Bytes → Bool
is_readable_option [] = false
is_readable_option (byte ∷ rest) = is_readable_as (long_of_rest (byte ∷ rest)) []

-- reads on, after these uses and where this option waits for its value
abbrev pub Reader : Type 0
Reader = List Use → Option Bytes → Option (List Use)

abbrev pub with_use : List Use → Bytes → Bytes → Reader → Option (List Use)
with_use seen name value next =
    if is_value value && not (has_use seen name) then next (seen ++ (name, value) ∷ []) None else None

-- `--name`, with or without something behind `=`, by whether its option is a flag
abbrev pub with_form : Option Bool → Bytes → Option Bytes → List Use → Reader → Option (List Use)
with_form None name value seen next = None
with_form (Some true) name None seen next = with_use seen name flag_value next
with_form (Some true) name (Some value) seen next = None
with_form (Some false) name None seen next = next seen (Some name)
with_form (Some false) name (Some value) seen next = with_use seen name value next

abbrev pub with_option : List Argument → Option (Bytes × Option Bytes) → List Use → Reader → Option (List Use)
with_option arguments None seen next = None
with_option arguments (Some (name, value)) seen next = with_form (is_flag_of arguments name) name value seen next

abbrev pub with_word : List Argument → Bytes → List Use → Option Bytes → Reader → Option (List Use)
with_word arguments word seen (Some name) next = with_use seen name word next
with_word arguments word seen None next = with_option arguments (long_of word) seen next

-- the uses that words make of these options, after those seen
unfoldable pub uses_from : List Argument → List Bytes → List Use → Option Bytes → Option (List Use)
uses_from arguments [] seen None = Some seen
uses_from arguments [] seen (Some name) = None
uses_from arguments (word ∷ rest) seen waiting = with_word arguments word seen waiting (uses_from arguments rest)

abbrev pub uses_of : List Argument → List Bytes → Option (List Use)
uses_of arguments words = uses_from arguments words [] None

-- the value that clap finds for each option
abbrev pub matched : Found → Values
matched found option = given_in (rows_of found) (name option)

abbrev pub required_text : Values → OptionName → Result Bytes WordsFault
required_text values option = or_fault Words (text_of values option)

abbrev pub required_number : Values → OptionName → Result ℕ WordsFault
required_number values option = or_fault Words (number_or_default values option)

unfoldable pub decompose_request : Values → Result Request WordsFault
decompose_request values = required_text values option.Table >>= λ table. or_fault Words (tolerance_of values)
    >>= λ allowed. required_text values option.Alphabet >>= λ alphabet. required_text values option.Adduct
    >>= λ adduct. required_text values option.Rules >>= λ rules.
    Ok (Decompose table (number_of values option.Mass) (values option.Peaks) allowed alphabet adduct rules
    (number_of values option.Limit) (values option.After) (is_some (values option.Json)))

unfoldable pub envelope_request : Values → Result Request WordsFault
envelope_request values = required_text values option.Table >>= λ table. required_text values option.Adduct
    >>= λ adduct. required_text values option.Formula >>= λ formula. required_number values option.Coverage
    >>= λ coverage. Ok (Envelope table (values option.Tracer) adduct formula coverage (is_some (values option.Certificate))
    (is_some (values option.Json)))

unfoldable pub rank_request : Values → Result Request WordsFault
rank_request values = required_text values option.Table >>= λ table. required_text values option.Peaks
    >>= λ peaks. or_fault Words (tolerance_of values) >>= λ allowed. required_text values option.Alphabet
    >>= λ alphabet. required_text values option.Adduct >>= λ adduct. required_text values option.Rules
    >>= λ rules. required_number values option.Coverage >>= λ coverage. required_number values option.Turn
    >>= λ turn. Ok (Rank table (values option.Tracer) peaks allowed alphabet adduct rules coverage
    (number_of values option.Peak) turn (number_of values option.Turns) (is_some (values option.Json)))

unfoldable pub check_request : Values → Result Request WordsFault
check_request values = required_text values option.Table >>= λ table. required_text values option.Certificate
    >>= λ certificate. Ok (Check table (values option.Tracer) certificate)

unfoldable pub generate_request : Values → Result Request WordsFault
generate_request values = required_text values option.Table >>= λ table. required_number values option.Number
    >>= λ number. Ok (Generate table number)

-- the request of values that go together and are in their ranges
abbrev pub fields_request : CommandName → Values → Result Request WordsFault
fields_request command.Decompose values = decompose_request values
fields_request command.Envelope values = envelope_request values
fields_request command.Rank values = rank_request values
fields_request command.Check values = check_request values
fields_request command.Generate values = generate_request values

-- the answer by whether options go together, and by the first whose value is outside its range
abbrev pub answer_by : Bool → Option OptionName → Result Request WordsFault → Result Request WordsFault
answer_by false outside answer = Err Words
answer_by true (Some option) answer = Err (Value (number option))
answer_by true None answer = answer

abbrev pub values_request : CommandName → Values → Result Request WordsFault
values_request command values =
    answer_by (go_together command values) (first_outside command values) (fields_request command values)

-- what words ask for
unfoldable pub request_of : List Bytes → Result Request WordsFault
request_of [] = Err Words
request_of (first ∷ words) = or_fault Words (command_of first) >>= λ command.
    or_fault Words (uses_of (arguments command) words) >>= λ uses. values_request command (value_of uses)
