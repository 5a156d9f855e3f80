use Rattle.residue_table.proofs.tests.reaches.Given as goal

abbrev pub ghosts-reaches_with : goal.ghosts-reaches_with
ghosts-reaches_with a = record { name = a.blank.name; parts = a.blank.parts }
