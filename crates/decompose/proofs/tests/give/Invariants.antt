use Rattle.decompose.proofs.tests.give.Given as goal

abbrev pub ghosts-give_with : goal.ghosts-give_with
ghosts-give_with a = record { name = a.blank.name; parts = a.blank.parts }
