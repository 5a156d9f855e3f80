use Rattle.formula_reports.proofs.decomposition.Decomposition.formulas.Given as goal

abbrev pub ghosts-formulas_of : goal.ghosts-formulas_of
ghosts-formulas_of a = record { name = a.blank.name; parts = a.blank.parts }
