use Rattle.formula_reports.proofs.decomposition.Decomposition.write_peak.Given as goal

abbrev pub ghosts-put_formulas : goal.ghosts-put_formulas
ghosts-put_formulas g a = record { name = a.blank.name; parts = a.blank.parts }
