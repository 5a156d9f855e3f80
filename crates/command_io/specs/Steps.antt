-- The steps that more than one command has: each reads one thing that a command is given. The names of the files that a
-- step asks for stand beside it.
use Rattle.std.specs.Prelude.{ℕ, List, [], ◌∷◌, if◌then◌else◌, codes, Option, Some, None, Result, Ok}
use Rattle.std.specs.Str.{bytes_eq}
use Rattle.outside_ports.specs.Files.{Files}
use Rattle.mass_scaling.specs.declared.tolerances.Tolerance.{Tolerance}
use Rattle.element_table.specs.Elements.{TableEntries}
use Rattle.element_table.specs.TableText.{table_of}
use Rattle.element_table.specs.Tracers.{traced}
use Rattle.alphabet_text.specs.AlphabetAnswers.{alphabet_of}
use Rattle.alphabet_text.specs.declared.entries.AlphabetEntry.{AlphabetEntry}
use Rattle.adducts.specs.Adducts.{AdductValue}
use Rattle.adducts.specs.AdductReader.{adduct_of}
use Rattle.golden_rules.specs.Profile.{golden}
use Rattle.golden_rules.specs.RuleLines.{rules_of}
use Rattle.golden_rules.specs.declared.rule.Rule.{Rule}
use Rattle.candidates.specs.Grounds.{GroundValue}
use Rattle.command_io.specs.Asked.{Asked, Names, asks_none, asks_file, ◌and_then◌}
use Rattle.command_io.specs.Refusals.{or_fault_as}
use Rattle.command_io.specs.declared.input_fault.InputFault.{InputFault}
use Rattle.command_io.specs.declared.input_fault.InputFault.TheVariants.{Table, Tracer, Alphabet, Adduct, Rules}
use Rattle.command_io.specs.declared.inputs.TheConstants.{MAX_FILE_BYTES}

-- what bytes are read as
abbrev pub table_in : List ℕ → Result TableEntries InputFault
table_in bytes = or_fault_as Table (table_of bytes)

abbrev pub traced_in : TableEntries → List ℕ → Result TableEntries InputFault
traced_in table bytes = or_fault_as Tracer (traced table bytes)

abbrev pub rules_in : TableEntries → List ℕ → Result (List Rule) InputFault
rules_in table bytes = or_fault_as Rules (rules_of table bytes)

-- the table of a file
abbrev pub table_step : List ℕ → Files → Asked TableEntries
table_step name files = asks_file MAX_FILE_BYTES name files and_then λ bytes. asks_none (table_in bytes)

-- a table with the weights of a tracer file, where one is named
abbrev pub tracer_names : Option (List ℕ) → Names
tracer_names None = []
tracer_names (Some name) = name ∷ []

abbrev pub tracer_step : TableEntries → Option (List ℕ) → Files → Asked TableEntries
tracer_step table None files = asks_none (Ok table)
tracer_step table (Some name) files =
    asks_file MAX_FILE_BYTES name files and_then λ bytes. asks_none (traced_in table bytes)

-- the alphabet and the adduct of a text
abbrev pub alphabet_step : TableEntries → List ℕ → Result (List AlphabetEntry) InputFault
alphabet_step table text = or_fault_as Alphabet (alphabet_of table text)

abbrev pub adduct_step : TableEntries → List ℕ → Result AdductValue InputFault
adduct_step table text = or_fault_as Adduct (adduct_of table text)

-- the rules that a word names: none, those of the profile, or those of a file
abbrev pub rules_names : List ℕ → Names
rules_names word =
    if bytes_eq word (codes "none") then [] else (if bytes_eq word (codes "golden") then [] else word ∷ [])

abbrev pub rules_step : TableEntries → List ℕ → Files → Asked (List Rule)
rules_step table word files =
    if bytes_eq word (codes "none") then asks_none (Ok []) else (
    if bytes_eq word (codes "golden") then asks_none (Ok (golden table)) else (
    asks_file MAX_FILE_BYTES word files and_then λ bytes. asks_none (rules_in table bytes)))

-- what candidates are searched on
abbrev pub ground_step : TableEntries → Tolerance → List ℕ → List ℕ → List ℕ → Files → Asked GroundValue
ground_step table tolerance alphabet adduct rules files =
    asks_none (alphabet_step table alphabet) and_then λ alphabet.
    asks_none (adduct_step table adduct) and_then λ adduct.
    rules_step table rules files and_then λ rules.
    asks_none (Ok (record {
      table = table;
      alphabet = alphabet;
      adduct = adduct;
      tolerance = tolerance;
      rules = rules;
    }))
