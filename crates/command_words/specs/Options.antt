-- The table of options, and the commands with the options that each has. A word is the list of its bytes.
use Rattle.std.specs.Prelude.{ℕ, Bool, true, false, ◌==◌, List, [], ◌∷◌, codes, find, Option, Some, None}
use Rattle.std.specs.Option.{option_map_or}
use Rattle.std.specs.Str.{bytes_eq}
use Rattle.fixed_decimal.specs.Decimal.{decimal_within, whole_within}
use Rattle.mass_scaling.specs.declared.limits.TheConstants.{MAX_MZ, MAX_DA, MAX_PPM}
use Rattle.command_words.specs.declared.commands.CommandName.{CommandName}
use Rattle.command_words.specs.declared.commands.CommandName.TheVariants.{Decompose, Envelope, Rank, Check, Generate}
use Rattle.command_words.specs.declared.commands.OptionGroup.{OptionGroup}
use Rattle.command_words.specs.declared.commands.OptionGroup.TheVariants.{Sought, Tolerance, Form}
use Rattle.command_words.specs.declared.options.OptionName.{OptionName}
use Rattle.command_words.specs.declared.options.OptionName.TheVariants.{Table, Tracer, Mass, Peaks, Ppm, Da, PpmCalc}
use Rattle.command_words.specs.declared.options.OptionName.TheVariants.{Alphabet, Adduct, Rules, Formula, Coverage}
use Rattle.command_words.specs.declared.options.OptionName.TheVariants.{Limit, After, Peak, Turn, Turns, Certificate}
use Rattle.command_words.specs.declared.options.OptionName.TheVariants.{Number, Json}
use Rattle.command_words.specs.declared.options.ValueKind.{ValueKind}
use Rattle.command_words.specs.declared.options.ValueKind.TheVariants as value
use Rattle.command_words.specs.declared.options.TheConstants.{MIN_MZ, MIN_COVERAGE, MAX_COVERAGE, MIN_LIMIT, MAX_LIMIT}
use Rattle.command_words.specs.declared.options.TheConstants.{MIN_PEAK, MAX_PEAK, MIN_TURN, MAX_TURN, DEFAULT_TURN}
use Rattle.command_words.specs.declared.options.TheConstants.{MAX_TURNS, MAX_NUMBER}

-- a word, a name or a value, as the list of its bytes
abbrev pub Bytes : Type 0
Bytes = List ℕ

-- the options in the order of their table
abbrev pub option_table : List OptionName
option_table = Table ∷ Tracer ∷ Mass ∷ Peaks ∷ Ppm ∷ Da ∷ PpmCalc ∷ Alphabet ∷ Adduct
    ∷ Rules ∷ Formula ∷ Coverage ∷ Limit ∷ After ∷ Peak ∷ Turn ∷ Turns ∷ Certificate
    ∷ Number ∷ Json ∷ []

-- the name of an option, without its hyphens
abbrev pub name : OptionName → Bytes
name Table = codes "table"
name Tracer = codes "tracer"
name Mass = codes "mass"
name Peaks = codes "peaks"
name Ppm = codes "ppm"
name Da = codes "da"
name PpmCalc = codes "ppm-calc"
name Alphabet = codes "alphabet"
name Adduct = codes "adduct"
name Rules = codes "rules"
name Formula = codes "formula"
name Coverage = codes "coverage"
name Limit = codes "limit"
name After = codes "after"
name Peak = codes "peak"
name Turn = codes "turn"
name Turns = codes "turns"
name Certificate = codes "certificate"
name Number = codes "number"
name Json = codes "json"

-- what the value of an option is: a text, or a number in its range, in units of 10^-12 (Da), 10^-3 (ppm), 10^-18 (a
-- coverage) or 1
abbrev pub kind : OptionName → ValueKind
kind Table = value.Text
kind Tracer = value.Text
kind Mass = value.Daltons MIN_MZ MAX_MZ
kind Peaks = value.Text
kind Ppm = value.Ppm 0 MAX_PPM
kind Da = value.Daltons 0 MAX_DA
kind PpmCalc = value.Ppm 0 MAX_PPM
kind Alphabet = value.Text
kind Adduct = value.Text
kind Rules = value.Text
kind Formula = value.Text
kind Coverage = value.Fraction MIN_COVERAGE MAX_COVERAGE
kind Limit = value.Whole MIN_LIMIT MAX_LIMIT
kind After = value.Text
kind Peak = value.Whole MIN_PEAK MAX_PEAK
kind Turn = value.Whole MIN_TURN MAX_TURN
kind Turns = value.Whole 0 MAX_TURNS
kind Certificate = value.Text
kind Number = value.Whole 0 MAX_NUMBER
kind Json = value.Text

-- the place of an option in the table, from 1
abbrev pub number : OptionName → ℕ
number Table = 1
number Tracer = 2
number Mass = 3
number Peaks = 4
number Ppm = 5
number Da = 6
number PpmCalc = 7
number Alphabet = 8
number Adduct = 9
number Rules = 10
number Formula = 11
number Coverage = 12
number Limit = 13
number After = 14
number Peak = 15
number Turn = 16
number Turns = 17
number Certificate = 18
number Number = 19
number Json = 20

-- the text that stands for an option which isn't given, if the option has one
abbrev pub default_text : OptionName → Option Bytes
default_text Adduct = Some (codes "M")
default_text Rules = Some (codes "none")
default_text _ = None

-- the number that stands for an option which isn't given, if the option has one
abbrev pub default_number : OptionName → Option ℕ
default_number Turn = Some DEFAULT_TURN
default_number _ = None

-- the option without which this one isn't asked, if there is one
abbrev pub companion : OptionName → Option OptionName
companion Limit = Some Mass
companion After = Some Mass
companion _ = None

-- two hyphens, which stand before an option's name
abbrev pub hyphens : Bytes
hyphens = 45 ∷ 45 ∷ []

-- an option as it is written
abbrev pub word : OptionName → Bytes
word option = 45 ∷ 45 ∷ name option

-- the number of a value of this kind, where its text is a number, fine enough for its unit and in the range; a text
-- has none
abbrev pub number_within : ValueKind → Bytes → Option ℕ
number_within value.Text text = None
number_within (value.Daltons low high) text = decimal_within 12 low high text
number_within (value.Ppm low high) text = decimal_within 3 low high text
number_within (value.Fraction low high) text = decimal_within 18 low high text
number_within (value.Whole low high) text = whole_within low high text

-- the first word that names a command
abbrev pub command_word : CommandName → Bytes
command_word Decompose = codes "decompose"
command_word Envelope = codes "envelope"
command_word Rank = codes "rank"
command_word Check = codes "check"
command_word Generate = codes "generate"

-- the commands
abbrev pub commands : List CommandName
commands = Decompose ∷ Envelope ∷ Rank ∷ Check ∷ Generate ∷ []

-- the command that a first word names
abbrev pub command_of : Bytes → Option CommandName
command_of first = find (λ command. bytes_eq first (command_word command)) commands

-- the options that a command has, in the order of the table
abbrev pub options : CommandName → List OptionName
options Decompose = Table ∷ Mass ∷ Peaks ∷ Ppm ∷ Da ∷ PpmCalc ∷ Alphabet ∷ Adduct ∷ Rules ∷ Limit ∷ After ∷ Json ∷ []
options Envelope = Table ∷ Tracer ∷ Adduct ∷ Formula ∷ Coverage ∷ Certificate ∷ Json ∷ []
options Rank = Table ∷ Tracer ∷ Peaks ∷ Ppm ∷ Da ∷ PpmCalc ∷ Alphabet ∷ Adduct ∷ Rules ∷ Coverage ∷ Peak ∷ Turn
    ∷ Turns ∷ Json ∷ []
options Check = Table ∷ Tracer ∷ Certificate ∷ []
options Generate = Table ∷ Number ∷ []

-- an option is a flag of a command, and has no value there
abbrev pub is_flag : CommandName → OptionName → Bool
is_flag Envelope Certificate = true
is_flag _ Json = true
is_flag _ _ = false

-- those of them that it requires
abbrev pub required_options : CommandName → List OptionName
required_options Decompose = Table ∷ Alphabet ∷ []
required_options Envelope = Table ∷ Formula ∷ Coverage ∷ []
required_options Rank = Table ∷ Peaks ∷ Alphabet ∷ Coverage ∷ []
required_options Check = Table ∷ Certificate ∷ []
required_options Generate = Table ∷ Number ∷ []

-- the groups of them of which it asks exactly one
abbrev pub groups : CommandName → List OptionGroup
groups Decompose = Sought ∷ Tolerance ∷ []
groups Rank = Tolerance ∷ []
groups _ = []

-- the groups of them of which it asks at most one
abbrev pub optional_groups : CommandName → List OptionGroup
optional_groups Envelope = Form ∷ []
optional_groups _ = []

-- the options of a group: what is looked for, how far from it, and what is printed of it
abbrev pub group_options : OptionGroup → List OptionName
group_options Sought = Mass ∷ Peaks ∷ []
group_options Tolerance = Ppm ∷ Da ∷ PpmCalc ∷ []
group_options Form = Certificate ∷ Json ∷ []

-- the option of this number as it is written, and nothing for a number that the table hasn't
abbrev pub option_word : ℕ → Bytes
option_word n = option_map_or word (find (λ option. number option == n) option_table) []
