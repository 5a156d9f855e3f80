use Rattle.layered_envelope.proofs.tests.resumed_after_each.Given as goal

abbrev pub ghosts-resumed_after_each_with : goal.ghosts-resumed_after_each_with
ghosts-resumed_after_each_with a = record { name = a.blank.name; parts = a.blank.parts }
