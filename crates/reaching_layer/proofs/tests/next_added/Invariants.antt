use Rattle.reaching_layer.proofs.tests.next_added.Given as goal

abbrev pub ghosts-next_with : goal.ghosts-next_with
ghosts-next_with a = record { name = a.blank.name; parts = a.blank.parts }
