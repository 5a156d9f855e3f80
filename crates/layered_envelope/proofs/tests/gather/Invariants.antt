use Rattle.layered_envelope.proofs.tests.gather.Given as goal

abbrev pub ghosts-gather_with : goal.ghosts-gather_with
ghosts-gather_with a = record { name = a.blank.name; parts = a.blank.parts }
