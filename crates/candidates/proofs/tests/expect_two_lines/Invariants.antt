use Rattle.candidates.proofs.tests.expect_two_lines.Given as goal

abbrev pub ghosts-push_two_lines : goal.ghosts-push_two_lines
ghosts-push_two_lines g a = record { name = a.blank.name; parts = a.blank.parts }
