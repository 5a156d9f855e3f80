use Rattle.std.proofs.Common.{◌≡◌, map, take}
use Rattle.report_text.specs.declared.report.Report.TheVariants.{Decompose}
use Rattle.formula_reports.specs.Reports.{peak_in}
use Rattle.formula_reports.specs.PageFormulas.{numbered}
use Rattle.formula_reports.proofs.decomposition.Decomposition.entries.Given as goal

-- the entries of the peaks so far were appended
abbrev pub invariant-loop-mz : goal.invariant-loop-mz
invariant-loop-mz l = l.report ≡ Decompose (map (peak_in l.self) (take l.mz-index (numbered l.self.mzs)))
