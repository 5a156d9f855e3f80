use Rattle.candidates.proofs.tests.expect_formulas.Given as goal

abbrev pub ghosts-expect_with : goal.ghosts-expect_with
ghosts-expect_with g a = record { name = a.blank.name; parts = a.blank.parts }
