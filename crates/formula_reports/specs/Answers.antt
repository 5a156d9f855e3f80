-- What `decompose` asks over files.
use Rattle.std.specs.Prelude.{ℕ, List, [], ◌∷◌, ◌++◌, Option, Result}
use Rattle.reader_answers.specs.Answers.{◌>>=◌}
use Rattle.outside_ports.specs.Files.{Files}
use Rattle.candidates.specs.Grounds.{GroundValue}
use Rattle.command_io.specs.Asked.{Asked, Names, asks_none, ◌and_then◌}
use Rattle.command_io.specs.Steps.{ground_step, rules_names, table_step}
use Rattle.command_io.specs.declared.input_fault.InputFault.{InputFault}
use Rattle.formula_reports.specs.PageFormulas.{within_limit}
use Rattle.formula_reports.specs.Queries.{FormulaQuery}
use Rattle.formula_reports.specs.Steps.{peaks_names, peaks_step, token_step}
use Rattle.formula_reports.specs.declared.decomposition.DecomposeOptions.{DecomposeOptions}

-- the page that is asked for: the token may be refused, and then the number of formulas
abbrev pub page_step : GroundValue → List ℕ → Option ℕ → Option (List ℕ) → Result FormulaQuery InputFault
page_step premises mzs limit after =
    token_step premises after
    >>= λ token. within_limit (record { premises = premises; mzs = mzs; after = token; limit = limit })

-- what `decompose` asks over files
abbrev pub decompose_query : DecomposeOptions → Files → Asked FormulaQuery
decompose_query options files =
    table_step options.table files and_then λ table.
    peaks_step options.mass options.peaks files and_then λ mzs.
    ground_step table options.tolerance options.alphabet options.adduct options.rules files and_then λ premises.
    asks_none (page_step premises mzs options.limit options.after)

-- the names of its files, in the order in which they are asked for
abbrev pub decompose_names : DecomposeOptions → Names
decompose_names options =
    (options.table ∷ []) ++ (peaks_names options.mass options.peaks ++ rules_names options.rules)
