use Rattle.outside_ports.proofs.tests.double_uncounted.Given as goal

abbrev pub ghosts-double_with : goal.ghosts-double_with
ghosts-double_with a = record { name = a.blank.name; parts = a.blank.parts }
