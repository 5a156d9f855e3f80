-- What `rank` and `generate` ask over files.
use Rattle.std.specs.Prelude.{ℕ, List, [], ◌∷◌, ◌++◌, length, None, Result, Ok, codes}
use Rattle.reader_answers.specs.Answers.{◌>>=◌}
use Rattle.outside_ports.specs.Files.{Files}
use Rattle.mass_scaling.specs.declared.tolerances.Tolerance.TheVariants.{Ppm}
use Rattle.command_words.specs.declared.options.TheConstants.{DEFAULT_TURN}
use Rattle.element_table.specs.Elements.{TableEntries}
use Rattle.alphabet_text.specs.declared.entries.AlphabetEntry.{AlphabetEntry}
use Rattle.adducts.specs.Adducts.{AdductValue}
use Rattle.candidates.specs.Grounds.{GroundValue}
use Rattle.peak_generator.specs.MadeFormulas.{made_formulas}
use Rattle.peak_generator.specs.MadePeaks.{made_peaks}
use Rattle.peak_ranking.specs.RankQueries.{RankQuery}
use Rattle.command_io.specs.Asked.{Asked, Names, asks_none, ◌and_then◌}
use Rattle.command_io.specs.Refusals.{or_fault_as}
use Rattle.command_io.specs.Steps.{adduct_step, alphabet_step, ground_step, rules_names, table_step, tracer_names}
use Rattle.command_io.specs.Steps.{tracer_step}
use Rattle.command_io.specs.declared.input_fault.InputFault.{InputFault}
use Rattle.command_io.specs.declared.input_fault.InputFault.TheVariants.{Peaks}
use Rattle.ranking_reports.specs.Queries.{GenerateQuery}
use Rattle.ranking_reports.specs.Steps.{peak_list_step, ranked_places, unless_stopped}
use Rattle.ranking_reports.specs.declared.generation.GenerateOptions.{GenerateOptions}
use Rattle.ranking_reports.specs.declared.generation.TheConstants.{MADE_COVERAGE, MADE_PEAKS, MADE_PPM}
use Rattle.ranking_reports.specs.declared.rank.RankOptions.{RankOptions}

-- the ranking of these peaks of a list by the options
abbrev pub ranking_of : RankOptions → List (ℕ × ℕ) → ℕ × ℕ → GroundValue → RankQuery
ranking_of options peaks places premises = record {
  premises = premises;
  peaks = peaks;
  first = places.0;
  jobs = places.1;
  coverage = options.coverage;
  turn = options.turn;
  turns = options.turns;
}

-- which peaks `rank` ranks, and on which premises
abbrev pub rank_reading : RankOptions → Files → Asked RankQuery
rank_reading options files =
    table_step options.table files and_then λ table.
    tracer_step table options.tracer files and_then λ traced.
    peak_list_step options.peaks files and_then λ peaks.
    asks_none (ranked_places options.peak (length peaks)) and_then λ places.
    ground_step traced options.tolerance options.alphabet options.adduct options.rules files and_then λ premises.
    asks_none (Ok (ranking_of options peaks places premises))

-- what it asks: a stop that is met in a turn may refuse it
abbrev pub rank_query : RankOptions → Files → Asked RankQuery
rank_query options files = rank_reading options files and_then λ query. asks_none (unless_stopped query query)

-- the names of its files
abbrev pub rank_names : RankOptions → Names
rank_names options =
    (options.table ∷ []) ++ (tracer_names options.tracer ++ ((options.peaks ∷ []) ++ rules_names options.rules))

-- ---- made peaks

abbrev pub made_alphabet : List ℕ
made_alphabet = codes "CHNO"

abbrev pub made_adduct : List ℕ
made_adduct = codes "[M+H]+"

-- the peaks of the formulas that a number makes
abbrev pub made_step : TableEntries → AdductValue → ℕ → Result (List (ℕ × ℕ)) InputFault
made_step table adduct number = or_fault_as Peaks (made_peaks table adduct (made_formulas number MADE_PEAKS))

-- the ranking of made peaks
abbrev pub generation_of : TableEntries → List AlphabetEntry → AdductValue → ℕ → List (ℕ × ℕ) → GenerateQuery
generation_of table alphabet adduct number peaks = record {
  number = number;
  ranking = record {
    premises = record {
      table = table;
      alphabet = alphabet;
      adduct = adduct;
      tolerance = Ppm MADE_PPM;
      rules = [];
    };
    peaks = peaks;
    first = 0;
    jobs = length peaks;
    coverage = MADE_COVERAGE;
    turn = DEFAULT_TURN;
    turns = None;
  };
}

-- `generate` over its table: the alphabet may be refused, the adduct, and then a made peak
abbrev pub generation_over : ℕ → TableEntries → Result GenerateQuery InputFault
generation_over number table =
    alphabet_step table made_alphabet
    >>= λ alphabet. adduct_step table made_adduct
    >>= λ adduct. made_step table adduct number
    >>= λ peaks. Ok (generation_of table alphabet adduct number peaks)

abbrev pub generate_reading : GenerateOptions → Files → Asked GenerateQuery
generate_reading options files =
    table_step options.table files and_then λ table. asks_none (generation_over options.number table)

-- what `generate` asks: a stop that is met in a turn may refuse it
abbrev pub generate_query : GenerateOptions → Files → Asked GenerateQuery
generate_query options files =
    generate_reading options files and_then λ query. asks_none (unless_stopped query.ranking query)

abbrev pub generate_names : GenerateOptions → Names
generate_names options = options.table ∷ []
