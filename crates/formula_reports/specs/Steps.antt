-- The steps that `decompose` alone has: the m/z of the peaks, and the token behind which their formulas begin.
use Rattle.std.specs.Prelude.{ℕ, List, [], ◌∷◌, map, ◌&&◌, if◌then◌else◌, Option, Some, None, Result, Ok, Err}
use Rattle.reader_answers.specs.Answers.{◌>>=◌}
use Rattle.outside_ports.specs.Files.{Files}
use Rattle.peak_text.specs.PeakText.{peaks_of}
use Rattle.alphabet_text.specs.declared.entries.AlphabetEntry.{AlphabetEntry}
use Rattle.written_items.specs.declared.item.Item.{Item}
use Rattle.formula_text.specs.FormulaReader.{read_of}
use Rattle.candidates.specs.Grounds.{GroundValue}
use Rattle.candidates.specs.PeakFormulas.{items_of, limits_of}
use Rattle.candidates.specs.Tokens.{fits, has_only}
use Rattle.command_io.specs.Asked.{Asked, Names, asks_none, asks_file, ◌and_then◌}
use Rattle.command_io.specs.Refusals.{or_fault_as}
use Rattle.command_io.specs.declared.input_fault.InputFault.{InputFault}
use Rattle.command_io.specs.declared.input_fault.InputFault.TheVariants.{Peaks, After, NotInBox}
use Rattle.command_io.specs.declared.inputs.TheConstants.{MAX_FILE_BYTES}

-- the m/z of the peaks that bytes are read as
abbrev pub mzs_in : List ℕ → Result (List ℕ) InputFault
mzs_in bytes = or_fault_as Peaks (peaks_of bytes) >>= λ peaks. Ok (map (λ peak. peak.0) peaks)

-- the m/z of the peaks: one that is given, or those of a file
abbrev pub peaks_names : Option ℕ → Option (List ℕ) → Names
peaks_names None (Some name) = name ∷ []
peaks_names None None = []
peaks_names (Some mass) peaks = []

abbrev pub peaks_step : Option ℕ → Option (List ℕ) → Files → Asked (List ℕ)
peaks_step None (Some name) files =
    asks_file MAX_FILE_BYTES name files and_then λ bytes. asks_none (mzs_in bytes)
peaks_step None None files = asks_none (Ok [])
peaks_step (Some mass) peaks files = asks_none (Ok (mass ∷ []))

-- a formula whose counts are in the box of the alphabet
abbrev pub in_box : List AlphabetEntry → List (Item × ℕ) → Result (List (Item × ℕ)) InputFault
in_box alphabet formula =
    if has_only (items_of alphabet) formula && fits (items_of alphabet) (limits_of alphabet) formula
    then Ok formula else Err NotInBox

-- the formula of a text after which a list is to begin
abbrev pub after_step : GroundValue → List ℕ → Result (List (Item × ℕ)) InputFault
after_step premises text = or_fault_as After (read_of premises.table text)

-- the token of a text, where there is one
abbrev pub token_step : GroundValue → Option (List ℕ) → Result (Option (List (Item × ℕ))) InputFault
token_step premises None = Ok None
token_step premises (Some text) =
    after_step premises text >>= λ formula. in_box premises.alphabet formula >>= λ token. Ok (Some token)
