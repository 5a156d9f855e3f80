use Rattle.formula_reports.proofs.decomposition.Decomposition.count.Given as goal

abbrev pub ghosts-count_left : goal.ghosts-count_left
ghosts-count_left a = record { name = a.blank.name; parts = a.blank.parts }
