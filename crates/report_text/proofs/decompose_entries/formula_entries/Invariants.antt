use Rattle.std.proofs.Common.{◌≡◌, map, take}
use Rattle.report_text.specs.JsonReports.{formula_entry}
use Rattle.report_text.proofs.decompose_entries.formula_entries.Given as goal

-- the entries of the formulas so far were appended
abbrev pub invariant-loop-formula : goal.invariant-loop-formula
invariant-loop-formula l = l.entries ≡ map (formula_entry l.table l.adduct l.mz) (take l.formula-index l.formulas)
