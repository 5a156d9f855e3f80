-- The steps that rankings of peaks alone have: each reads one thing that a command is given.
use Rattle.std.specs.Prelude.{ℕ, ◌-◌, nat_le, List, Option, Some, None, option_and_then, if◌then◌else◌, Result, Ok, Err}
use Rattle.reader_answers.specs.Answers.{unless_fault}
use Rattle.outside_ports.specs.Files.{Files}
use Rattle.peak_text.specs.PeakText.{peaks_of}
use Rattle.ranking.specs.declared.fault.RankFault.{RankFault}
use Rattle.ranking.specs.declared.fault.RankFault.TheVariants as stop
use Rattle.peak_ranking.specs.RankQueries.{RankQuery}
use Rattle.peak_ranking.specs.RankedJobs.{met_fault}
use Rattle.command_io.specs.Asked.{Asked, asks_file, asks_none, ◌and_then◌}
use Rattle.command_io.specs.Refusals.{or_fault_as}
use Rattle.command_io.specs.declared.input_fault.InputFault.{InputFault}
use Rattle.command_io.specs.declared.input_fault.InputFault.TheVariants.{CandidateLimit, Layer, NoPeak, Peaks}
use Rattle.command_io.specs.declared.inputs.TheConstants.{MAX_FILE_BYTES}

-- the peaks that bytes are read as, and those of a file
abbrev pub peak_list_in : List ℕ → Result (List (ℕ × ℕ)) InputFault
peak_list_in bytes = or_fault_as Peaks (peaks_of bytes)

abbrev pub peak_list_step : List ℕ → Files → Asked (List (ℕ × ℕ))
peak_list_step name files = asks_file MAX_FILE_BYTES name files and_then λ bytes. asks_none (peak_list_in bytes)

-- the place, from 0, of the first of so many peaks that is ranked, and how many are: the one of a number, or all
abbrev pub ranked_places : Option ℕ → ℕ → Result (ℕ × ℕ) InputFault
ranked_places None count = Ok (0, count)
ranked_places (Some number) count = if nat_le number count then Ok (number - 1, 1) else Err (NoPeak number)

-- what a stop of a job says of what was given; want of memory is no stop
abbrev pub limit_of : RankFault → Option InputFault
limit_of (stop.TooMany peak) = Some (CandidateLimit peak)
limit_of (stop.Layer peak ion) = Some (Layer ion)
limit_of stop.Memory = None

-- what is asked for, unless a stop is met in the turns of a ranking: the first one refuses it
abbrev pub unless_stopped : {A : Type 0} → RankQuery → A → Result A InputFault
unless_stopped query asked = unless_fault (option_and_then limit_of (met_fault query)) (Ok asked)
