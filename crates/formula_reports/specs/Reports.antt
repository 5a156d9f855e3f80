-- The reports of the formulas of peaks: as lines, and in JSON, of the same entries.
use Rattle.std.specs.Prelude.{ℕ, List, length, ◌++◌, ◌+◌, map}
use Rattle.std.specs.List.{flat_map}
use Rattle.candidates.specs.Lines.{line_at}
use Rattle.report_lines.specs.ReportLines.{decompose_head, peak_line}
use Rattle.written_items.specs.declared.item.Item.{Item}
use Rattle.candidates.specs.PeakFormulas.{formula_at}
use Rattle.report_text.specs.JsonReports.{json_text, peak_entry}
use Rattle.report_text.specs.declared.decompose_entries.PeakEntry.{PeakEntry}
use Rattle.report_text.specs.declared.report.Report.TheVariants.{Decompose}
use Rattle.formula_reports.specs.PageFormulas.{asked_counts, numbered}
use Rattle.formula_reports.specs.Queries.{FormulaQuery}

-- the lines of a peak's page
abbrev pub formula_lines : FormulaQuery → ℕ → List ℕ
formula_lines query mz = flat_map (line_at query.premises mz) (asked_counts query mz)

-- the lines of a peak: its number and its m/z, and its formulas
abbrev pub peak_lines : FormulaQuery → ℕ × ℕ → List ℕ
peak_lines query peak = peak_line peak.0 peak.1 ++ formula_lines query peak.1

-- the report of the formulas of peaks
unfoldable pub formulas_report : FormulaQuery → List ℕ
formulas_report query = decompose_head (length query.mzs) ++ flat_map (peak_lines query) (numbered query.mzs)

-- the formulas of a peak's page
abbrev pub asked_formulas : FormulaQuery → ℕ → List (List (Item × ℕ))
asked_formulas query mz = map (formula_at query.premises.alphabet) (asked_counts query mz)

-- a peak of this number and this m/z, and its formulas
abbrev pub peak_in : FormulaQuery → ℕ × ℕ → PeakEntry
peak_in query peak =
    peak_entry query.premises.table query.premises.adduct peak.0 peak.1 (asked_formulas query peak.1)

-- the report of the formulas of peaks in JSON
unfoldable pub formulas_json : FormulaQuery → List ℕ
formulas_json query = json_text (Decompose (map (peak_in query) (numbered query.mzs)))
