use Rattle.std.proofs.Common.{◌≡◌, ℕ, List, [], ◌∷◌, ◌++◌, length, map, refl, sym, ap, ◌∙◌, subst}
use Rattle.std.specs.Prelude.{Option, Result, Ok, Err}
use Rattle.std.proofs.lemmas.List.{length-map}
use Rattle.std.proofs.lemmas.Result.{err_from_is_err_and}
use Rattle.outside_ports.specs.Files.{Files}
use Rattle.element_table.specs.Elements.{TableEntries}
use Rattle.candidates.specs.Grounds.{GroundValue}
use Rattle.peak_ranking.specs.RankQueries.{RankQuery}
use Rattle.command_io.specs.Asked.{Asked, Names, asks_none, ◌and_then◌}
use Rattle.command_io.specs.Refusals.{GivesInput}
use Rattle.command_io.specs.Steps.{ground_step, rules_names, table_step, tracer_names, tracer_step}
use Rattle.command_io.specs.declared.input_fault.InputFault.{InputFault}
use Rattle.command_io.proofs.PartLaws.{given_next, given_stop, part_end, part_end_stop, part_next, part_stop}
use Rattle.ranking_reports.specs.Answers.{ranking_of}
use Rattle.ranking_reports.specs.Steps.{peak_list_step, ranked_places}
use Rattle.ranking_reports.specs.declared.rank.RankOptions.{RankOptions}
use Rattle.ranking_reports.proofs.rank.read_ranking.Goals as goal

-- what follows the premises, the places, the peaks, the tracer, and the table
abbrev behind_premises : RankOptions → List (ℕ × ℕ) → ℕ × ℕ → GroundValue → Result RankQuery InputFault
behind_premises options peaks places premises = Ok (ranking_of options peaks places premises)

abbrev behind_places : RankOptions → TableEntries → List (ℕ × ℕ) → ℕ × ℕ → Files → Asked RankQuery
behind_places options traced peaks places files =
    ground_step traced options.tolerance options.alphabet options.adduct options.rules files and_then λ premises.
    asks_none (behind_premises options peaks places premises)

abbrev behind_peaks : RankOptions → TableEntries → List (ℕ × ℕ) → Files → Asked RankQuery
behind_peaks options traced peaks files =
    asks_none (ranked_places options.peak (length peaks)) and_then λ places.
    behind_places options traced peaks places files

abbrev behind_traced : RankOptions → TableEntries → Files → Asked RankQuery
behind_traced options traced files =
    peak_list_step options.peaks files and_then λ peaks. behind_peaks options traced peaks files

abbrev behind_table : RankOptions → TableEntries → Files → Asked RankQuery
behind_table options table files =
    tracer_step table options.tracer files and_then λ traced. behind_traced options traced files

-- the names behind those of the tracer, and of the table
abbrev late_names : RankOptions → Names
late_names options = (options.peaks ∷ []) ++ rules_names options.rules

abbrev later_names : RankOptions → Names
later_names options = tracer_names options.tracer ++ late_names options

pub returns-in_err-table : goal.returns-in_err-table
returns-in_err-table g c =
    let o = c.args.options.now in
    let given = err_from_is_err_and c.from_residual.result c.from_residual.ensures.1 in
    rw (given.1, given.2) (part_stop (λ t. t) (λ r. r) (o.table ∷ []) (later_names o) (table_step o.table)
    (behind_table o) _ _ _ c.in_err-table.ensures)

pub returns-in_err-traced : goal.returns-in_err-traced
returns-in_err-traced g c =
    let o = c.args.options.now in
    let table = c.in_ok-table.table in
    let given = err_from_is_err_and c.from_residual-in_err-traced.result c.from_residual-in_err-traced.ensures.1 in
    rw (given.1, given.2) (part_next (λ t. t) (λ r. r) (o.table ∷ []) (later_names o) (table_step o.table)
    (behind_table o) _ _ _ table _ c.in_ok-table.ensures
    (part_stop (λ t. t) (λ r. r) (tracer_names o.tracer) (late_names o) (tracer_step table o.tracer)
    (behind_traced o) _ _ _ c.in_err-traced.ensures))

pub returns-in_err-peaks : goal.returns-in_err-peaks
returns-in_err-peaks g c =
    let o = c.args.options.now in
    let table = c.in_ok-table.table in
    let traced = c.in_ok-traced.traced in
    let given = err_from_is_err_and c.from_residual-in_err-peaks.result c.from_residual-in_err-peaks.ensures.1 in
    rw (given.1, given.2) (part_next (λ t. t) (λ r. r) (o.table ∷ []) (later_names o) (table_step o.table)
    (behind_table o) _ _ _ table _ c.in_ok-table.ensures
    (part_next (λ t. t) (λ r. r) (tracer_names o.tracer) (late_names o) (tracer_step table o.tracer)
    (behind_traced o) _ _ _ traced _ c.in_ok-traced.ensures
    (part_stop (λ p. p) (λ r. r) (o.peaks ∷ []) (rules_names o.rules) (peak_list_step o.peaks)
    (behind_peaks o traced) _ _ _ c.in_err-peaks.ensures)))

pub returns-in_err-places : goal.returns-in_err-places
returns-in_err-places g c =
    let o = c.args.options.now in
    let table = c.in_ok-table.table in
    let traced = c.in_ok-traced.traced in
    let peaks = c.in_ok-peaks.peaks in
    let count : length c.mz.result.now ≡ length peaks =
    ap length c.mz.ensures.mz ∙ length-map peaks (λ (p : ℕ × ℕ). p.0) in
    let given = err_from_is_err_and c.from_residual-in_err-places.result c.from_residual-in_err-places.ensures.1 in
    rw (given.1, given.2) (part_next (λ t. t) (λ r. r) (o.table ∷ []) (later_names o) (table_step o.table)
    (behind_table o) _ _ _ table _ c.in_ok-table.ensures
    (part_next (λ t. t) (λ r. r) (tracer_names o.tracer) (late_names o) (tracer_step table o.tracer)
    (behind_traced o) _ _ _ traced _ c.in_ok-traced.ensures
    (part_next (λ p. p) (λ r. r) (o.peaks ∷ []) (rules_names o.rules) (peak_list_step o.peaks)
    (behind_peaks o traced) _ _ _ peaks _ c.in_ok-peaks.ensures
    (given_stop (λ p. p) (λ r. r) (rules_names o.rules) (ranked_places o.peak (length peaks))
    (behind_places o traced peaks) _ _
    (subst (λ (n : ℕ). GivesInput (λ (p : ℕ × ℕ). p) (ranked_places o.peak n) (Err c.in_err-places.field-0.0)) count
    c.in_err-places.ensures.places)))))

pub returns-in_err-premises : goal.returns-in_err-premises
returns-in_err-premises g c =
    let o = c.args.options.now in
    let table = c.in_ok-table.table in
    let traced = c.in_ok-traced.traced in
    let peaks = c.in_ok-peaks.peaks in
    let places = c.in_ok-places.places in
    let count : length c.mz.result.now ≡ length peaks =
    ap length c.mz.ensures.mz ∙ length-map peaks (λ (p : ℕ × ℕ). p.0) in
    let given = err_from_is_err_and c.from_residual-in_err-premises.result c.from_residual-in_err-premises.ensures.1 in
    rw (given.1, given.2) (part_next (λ t. t) (λ r. r) (o.table ∷ []) (later_names o) (table_step o.table)
    (behind_table o) _ _ _ table _ c.in_ok-table.ensures
    (part_next (λ t. t) (λ r. r) (tracer_names o.tracer) (late_names o) (tracer_step table o.tracer)
    (behind_traced o) _ _ _ traced _ c.in_ok-traced.ensures
    (part_next (λ p. p) (λ r. r) (o.peaks ∷ []) (rules_names o.rules) (peak_list_step o.peaks)
    (behind_peaks o traced) _ _ _ peaks _ c.in_ok-peaks.ensures
    (given_next (λ r. r) (rules_names o.rules) (ranked_places o.peak (length peaks)) (behind_places o traced peaks)
    _ _ places _ (ap (ranked_places o.peak) (sym count) ∙ c.in_ok-places.ensures.places)
    (part_end_stop (λ p. p) (λ r. r) (rules_names o.rules)
    (ground_step traced o.tolerance o.alphabet o.adduct o.rules) (behind_premises o peaks places) _ _ _
    c.in_err-premises.ensures.part)))))

pub returns : goal.returns
returns g c =
    let o = c.args.options.now in
    let table = c.in_ok-table.table in
    let traced = c.in_ok-traced.traced in
    let peaks = c.in_ok-peaks.peaks in
    let places = c.in_ok-places.places in
    let count : length c.mz.result.now ≡ length peaks =
    ap length c.mz.ensures.mz ∙ length-map peaks (λ (p : ℕ × ℕ). p.0) in
    part_next (λ t. t) (λ r. r) (o.table ∷ []) (later_names o) (table_step o.table)
    (behind_table o) _ _ _ table _ c.in_ok-table.ensures
    (part_next (λ t. t) (λ r. r) (tracer_names o.tracer) (late_names o) (tracer_step table o.tracer)
    (behind_traced o) _ _ _ traced _ c.in_ok-traced.ensures
    (part_next (λ p. p) (λ r. r) (o.peaks ∷ []) (rules_names o.rules) (peak_list_step o.peaks)
    (behind_peaks o traced) _ _ _ peaks _ c.in_ok-peaks.ensures
    (given_next (λ r. r) (rules_names o.rules) (ranked_places o.peak (length peaks)) (behind_places o traced peaks)
    _ _ places _ (ap (ranked_places o.peak) (sym count) ∙ c.in_ok-places.ensures.places)
    (part_end (λ p. p) (λ r. r) (rules_names o.rules)
    (ground_step traced o.tolerance o.alphabet o.adduct o.rules) (behind_premises o peaks places) _ _
    c.in_ok-premises.premises _ c.in_ok-premises.ensures.part (ap Ok (sym c.of.ensures))))))
