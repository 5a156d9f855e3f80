use Rattle.candidates.proofs.tests.expect_two_kept.Given as goal

abbrev pub ghosts-keep_two : goal.ghosts-keep_two
ghosts-keep_two g a = record { name = a.blank.name; parts = a.blank.parts }
