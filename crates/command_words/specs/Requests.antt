-- What the words of the command line ask for.
use Rattle.std.specs.Prelude.{ℕ, ◌≡◌, ◌≤◌, ◌⊎◌, ◌==◌, ◌&&◌, ◌||◌, not, nat_le, Bool, true, false, List, [], ◌∷◌, find, is_none, is_some}
use Rattle.std.specs.Prelude.{Option, Some, None, option_map, option_and_then, Result, Ok, Err, ⊤}
use Rattle.std.specs.List.{count_by, list_all}
use Rattle.std.specs.Option.{option_map_or, option_or}
use Rattle.mass_scaling.specs.Limits.{IsTolerance}
use Rattle.mass_scaling.specs.declared.limits.TheConstants.{MAX_MZ}
use Rattle.mass_scaling.specs.declared.tolerances.Tolerance.{Tolerance}
use Rattle.mass_scaling.specs.declared.tolerances.Tolerance.TheVariants as tolerance
use Rattle.command_words.specs.Options.{Bytes, command_of, companion, default_number, default_text, group_options}
use Rattle.command_words.specs.Options.{groups, kind, number, number_within, optional_groups, options, required_options}
use Rattle.command_words.specs.Uses.{Use, GivesValues, value_of}
use Rattle.command_words.specs.declared.commands.CommandName.{CommandName}
use Rattle.command_words.specs.declared.commands.CommandName.TheVariants as command
use Rattle.command_words.specs.declared.commands.OptionGroup.{OptionGroup}
use Rattle.command_words.specs.declared.fault.WordsFault.{WordsFault}
use Rattle.command_words.specs.declared.fault.WordsFault.TheVariants.{Words, Value, Memory}
use Rattle.command_words.specs.declared.options.OptionName.{OptionName}
use Rattle.command_words.specs.declared.options.OptionName.TheVariants as option
use Rattle.command_words.specs.declared.options.ValueKind.{ValueKind}
use Rattle.command_words.specs.declared.options.ValueKind.TheVariants.{Text}
use Rattle.command_words.specs.declared.options.TheConstants.{MIN_MZ, MIN_COVERAGE, MAX_COVERAGE, MIN_LIMIT, MAX_LIMIT}
use Rattle.command_words.specs.declared.options.TheConstants.{MIN_PEAK, MAX_PEAK, MIN_TURN, MAX_TURN, MAX_TURNS}
use Rattle.command_words.specs.declared.options.TheConstants.{MAX_NUMBER, OPTION_COUNT}
use Rattle.command_words.specs.declared.request.Request.{Request}
use Rattle.command_words.specs.declared.request.Request.TheVariants.{Decompose, Envelope, Rank, Check, Generate}

-- the value that each option is given, if it is
abbrev pub Values : Type 0
Values = OptionName → Option Bytes

-- the number that an option is given, in its unit and within its range
abbrev pub number_of : Values → OptionName → Option ℕ
number_of values option = option_and_then (number_within (kind option)) (values option)

-- the number that an option is given, or else its default
abbrev pub number_or_default : Values → OptionName → Option ℕ
number_or_default values option = option_or (number_of values option) (default_number option)

-- the text that an option is given, or else its default
abbrev pub text_of : Values → OptionName → Option Bytes
text_of values option = option_or (values option) (default_text option)

-- the tolerance that is given: in ppm of the measured m/z, in Da, or in ppm of the calculated m/z
abbrev pub tolerance_of : Values → Option Tolerance
tolerance_of values = option_or (option_map tolerance.Ppm (number_of values option.Ppm))
    (option_or (option_map tolerance.Da (number_of values option.Da))
    (option_map tolerance.PpmCalculated (number_of values option.PpmCalc)))

-- ---- which options go together

-- how many options of a group are given
abbrev pub given_count : Values → OptionGroup → ℕ
given_count values group = count_by (λ option. is_some (values option)) (group_options group)

-- exactly one is
abbrev pub has_one : Values → OptionGroup → Bool
has_one values group = given_count values group == 1

-- at most one is
abbrev pub has_one_at_most : Values → OptionGroup → Bool
has_one_at_most values group = nat_le (given_count values group) 1

-- an option isn't given, or is and the one too without which it isn't asked
abbrev pub has_companion : Values → OptionName → Bool
has_companion values option =
    option_map_or (λ other. not (is_some (values option)) || is_some (values other)) (companion option) true

-- each option that the command requires is given, exactly one of each of its groups, at most one of each of its
-- optional groups, and none without the one that it goes with
abbrev pub go_together : CommandName → Values → Bool
go_together command values = list_all (λ option. is_some (values option)) (required_options command)
    && (list_all (has_one values) (groups command)
    && (list_all (has_one_at_most values) (optional_groups command)
    && list_all (has_companion values) (options command)))

-- ---- which values are outside their ranges

-- a value of this kind is outside its range: no text is
abbrev pub is_outside : ValueKind → Bytes → Bool
is_outside Text value = false
is_outside kind value = is_none (number_within kind value)

-- an option is given a value outside its range
abbrev pub has_value_outside : Values → OptionName → Bool
has_value_outside values option = option_map_or (is_outside (kind option)) (values option) false

-- the first option in the order of the table that is given a value outside its range
abbrev pub first_outside : CommandName → Values → Option OptionName
first_outside command values = find (has_value_outside values) (options command)

-- ---- what is asked for

-- each field of the request is what its option is given, in its unit, or the option's default; that of a flag says
-- whether the flag is given
abbrev pub IsRequestOf : CommandName → Values → Request → Type 0
IsRequestOf command.Decompose values (Decompose table mass peaks allowed alphabet adduct rules limit after json) =
    (text_of values option.Table ≡ Some table) × (mass ≡ number_of values option.Mass)
    × (peaks ≡ values option.Peaks) × (tolerance_of values ≡ Some allowed)
    × (text_of values option.Alphabet ≡ Some alphabet) × (text_of values option.Adduct ≡ Some adduct)
    × (text_of values option.Rules ≡ Some rules) × (limit ≡ number_of values option.Limit)
    × (after ≡ values option.After) × (json ≡ is_some (values option.Json))
IsRequestOf command.Envelope values (Envelope table tracer adduct formula coverage certificate json) =
    (text_of values option.Table ≡ Some table) × (tracer ≡ values option.Tracer)
    × (text_of values option.Adduct ≡ Some adduct) × (text_of values option.Formula ≡ Some formula)
    × (number_of values option.Coverage ≡ Some coverage) × (certificate ≡ is_some (values option.Certificate))
    × (json ≡ is_some (values option.Json))
IsRequestOf command.Rank values (Rank table tracer peaks allowed alphabet adduct rules coverage peak turn turns json) =
    (text_of values option.Table ≡ Some table) × (tracer ≡ values option.Tracer)
    × (text_of values option.Peaks ≡ Some peaks) × (tolerance_of values ≡ Some allowed)
    × (text_of values option.Alphabet ≡ Some alphabet) × (text_of values option.Adduct ≡ Some adduct)
    × (text_of values option.Rules ≡ Some rules) × (number_of values option.Coverage ≡ Some coverage)
    × (peak ≡ number_of values option.Peak) × (number_or_default values option.Turn ≡ Some turn)
    × (turns ≡ number_of values option.Turns) × (json ≡ is_some (values option.Json))
IsRequestOf command.Check values (Check table tracer certificate) = (text_of values option.Table ≡ Some table)
    × (tracer ≡ values option.Tracer) × (text_of values option.Certificate ≡ Some certificate)
IsRequestOf command.Generate values (Generate table number) = (text_of values option.Table ≡ Some table)
    × (number_of values option.Number ≡ Some number)
IsRequestOf _ values _ = ⊥

-- What the values of a command's options ask for: Words where the options that are given don't go together; or, where
-- they do, the first option in the order of the table whose value is outside its range; or, where none is, the
-- request.
abbrev pub ValuesAsk : CommandName → Values → Result Request WordsFault → Type 0
ValuesAsk command values (Ok request) = (go_together command values ≡ true) × (first_outside command values ≡ None)
    × IsRequestOf command values request
ValuesAsk command values (Err Words) = go_together command values ≡ false
ValuesAsk command values (Err (Value n)) = (go_together command values ≡ true)
    × ((option : OptionName) × (first_outside command values ≡ Some option) × (n ≡ number option))
ValuesAsk command values (Err Memory) = ⊥

-- the words give a command, and values to its options
abbrev pub IsReading : CommandName → List Use → List Bytes → Type 0
IsReading command uses [] = ⊥
IsReading command uses (first ∷ words) = (command_of first ≡ Some command) × GivesValues command uses words

-- What words ask for: what their reading asks for, or Words where they have none.
abbrev pub Asks : List Bytes → Result Request WordsFault → Type 0
Asks words answer = ((command : CommandName) × (uses : List Use) × IsReading command uses words
    × ValuesAsk command (value_of uses) answer)
    ⊎ (((command : CommandName) (uses : List Use) → ¬ (IsReading command uses words)) × (answer ≡ Err Words))

-- ---- what holds of each request, and of each fault

-- a number that is given is from low to high
abbrev pub IsWithin : ℕ → ℕ → Option ℕ → Type 0
IsWithin low high None = ⊤
IsWithin low high (Some n) = (low ≤ n) × (n ≤ high)

-- exactly one of a mass and the name of a file of peaks is there
abbrev pub HasMassOrPeaks : Option ℕ → Option Bytes → Type 0
HasMassOrPeaks (Some mass) None = ⊤
HasMassOrPeaks None (Some peaks) = ⊤
HasMassOrPeaks _ _ = ⊥

-- a limit and a token stand only beside a mass
abbrev pub GoWithMass : Option ℕ → Option ℕ → Option Bytes → Type 0
GoWithMass (Some mass) limit after = ⊤
GoWithMass None limit after = (limit ≡ None) × (after ≡ None)

-- the numbers of a request are in their ranges: masses in 10^-12 Da, coverages in 10^-18
abbrev pub HasRanges : Request → Type 0
HasRanges (Decompose table mass peaks allowed alphabet adduct rules limit after json) = HasMassOrPeaks mass peaks
    × IsWithin MIN_MZ MAX_MZ mass × IsTolerance allowed × IsWithin MIN_LIMIT MAX_LIMIT limit
    × GoWithMass mass limit after
HasRanges (Envelope table tracer adduct formula coverage certificate json) = (MIN_COVERAGE ≤ coverage)
    × (coverage ≤ MAX_COVERAGE)
HasRanges (Rank table tracer peaks allowed alphabet adduct rules coverage peak turn turns json) = IsTolerance allowed
    × (MIN_COVERAGE ≤ coverage) × (coverage ≤ MAX_COVERAGE) × IsWithin MIN_PEAK MAX_PEAK peak
    × (MIN_TURN ≤ turn) × (turn ≤ MAX_TURN) × IsWithin 0 MAX_TURNS turns
HasRanges (Check table tracer certificate) = ⊤
HasRanges (Generate table number) = number ≤ MAX_NUMBER

-- the option that a fault numbers is one of the table
abbrev pub IsOfTable : WordsFault → Type 0
IsOfTable (Value n) = (1 ≤ n) × (n ≤ OPTION_COUNT)
IsOfTable _ = ⊤
