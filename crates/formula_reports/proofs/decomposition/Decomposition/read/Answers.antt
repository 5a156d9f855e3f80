use Rattle.std.proofs.Common.{ℕ, List, [], ◌∷◌, ◌++◌}
use Rattle.std.specs.Prelude.{Result}
use Rattle.std.proofs.lemmas.Result.{err_from_is_err_and}
use Rattle.outside_ports.specs.Files.{Files}
use Rattle.element_table.specs.Elements.{TableEntries}
use Rattle.candidates.specs.Grounds.{GroundValue}
use Rattle.command_io.specs.Asked.{Asked, asks_none, ◌and_then◌}
use Rattle.command_io.specs.Steps.{ground_step, rules_names, table_step}
use Rattle.command_io.specs.declared.input_fault.InputFault.{InputFault}
use Rattle.command_io.proofs.PartLaws.{part_end, part_end_stop, part_next, part_stop}
use Rattle.formula_reports.specs.Answers.{page_step}
use Rattle.formula_reports.specs.Queries.{FormulaQuery}
use Rattle.formula_reports.specs.Steps.{peaks_names, peaks_step}
use Rattle.formula_reports.specs.declared.decomposition.DecomposeOptions.{DecomposeOptions}
use Rattle.formula_reports.proofs.decomposition.Decomposition.read.Goals as goal

-- what follows the premises, the peaks, and the table
abbrev behind_premises : DecomposeOptions → List ℕ → GroundValue → Result FormulaQuery InputFault
behind_premises options mzs premises = page_step premises mzs options.limit options.after

abbrev behind_peaks : DecomposeOptions → TableEntries → List ℕ → Files → Asked FormulaQuery
behind_peaks options table mzs files =
    ground_step table options.tolerance options.alphabet options.adduct options.rules files and_then λ premises.
    asks_none (behind_premises options mzs premises)

abbrev behind_table : DecomposeOptions → TableEntries → Files → Asked FormulaQuery
behind_table options table files =
    peaks_step options.mass options.peaks files and_then λ mzs. behind_peaks options table mzs files

pub returns-in_err-table : goal.returns-in_err-table
returns-in_err-table g c =
    let o = c.args.options.now in
    let given = err_from_is_err_and c.from_residual.result c.from_residual.ensures.1 in
    rw (given.1, given.2) (part_stop (λ t. t) (λ d. d) (o.table ∷ [])
    (peaks_names o.mass o.peaks ++ rules_names o.rules) (table_step o.table) (behind_table o) _ _ _
    c.in_err-table.ensures)

pub returns-in_err-mzs : goal.returns-in_err-mzs
returns-in_err-mzs g c =
    let o = c.args.options.now in
    let table = c.in_ok-table.table in
    let given = err_from_is_err_and c.from_residual-in_err-mzs.result c.from_residual-in_err-mzs.ensures.1 in
    rw (given.1, given.2) (part_next (λ t. t) (λ d. d) (o.table ∷ [])
    (peaks_names o.mass o.peaks ++ rules_names o.rules) (table_step o.table) (behind_table o) _ _ _ table _
    c.in_ok-table.ensures
    (part_stop (λ v. v.items) (λ d. d) (peaks_names o.mass o.peaks) (rules_names o.rules)
    (peaks_step o.mass o.peaks) (behind_peaks o table) _ _ _ c.in_err-mzs.ensures.part))

pub returns-in_err-premises : goal.returns-in_err-premises
returns-in_err-premises g c =
    let o = c.args.options.now in
    let table = c.in_ok-table.table in
    let mzs = c.in_ok-mzs.mzs in
    let given = err_from_is_err_and c.from_residual-in_err-premises.result c.from_residual-in_err-premises.ensures.1 in
    rw (given.1, given.2) (part_next (λ t. t) (λ d. d) (o.table ∷ [])
    (peaks_names o.mass o.peaks ++ rules_names o.rules) (table_step o.table) (behind_table o) _ _ _ table _
    c.in_ok-table.ensures
    (part_next (λ v. v.items) (λ d. d) (peaks_names o.mass o.peaks) (rules_names o.rules)
    (peaks_step o.mass o.peaks) (behind_peaks o table) _ _ _ mzs _ c.in_ok-mzs.ensures.part
    (part_end_stop (λ p. p) (λ d. d) (rules_names o.rules)
    (ground_step table o.tolerance o.alphabet o.adduct o.rules) (behind_premises o mzs.items) _ _ _
    c.in_err-premises.ensures.part)))

pub returns : goal.returns
returns g c =
    let o = c.args.options.now in
    let table = c.in_ok-table.table in
    let mzs = c.in_ok-mzs.mzs in
    part_next (λ t. t) (λ d. d) (o.table ∷ [])
    (peaks_names o.mass o.peaks ++ rules_names o.rules) (table_step o.table) (behind_table o) _ _ _ table _
    c.in_ok-table.ensures
    (part_next (λ v. v.items) (λ d. d) (peaks_names o.mass o.peaks) (rules_names o.rules)
    (peaks_step o.mass o.peaks) (behind_peaks o table) _ _ _ mzs _ c.in_ok-mzs.ensures.part
    (part_end (λ p. p) (λ d. d) (rules_names o.rules)
    (ground_step table o.tolerance o.alphabet o.adduct o.rules) (behind_premises o mzs.items) _ _
    c.in_ok-premises.premises c.of_page.result c.in_ok-premises.ensures.part c.of_page.ensures))
