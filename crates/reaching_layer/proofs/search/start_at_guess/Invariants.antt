use Rattle.reaching_layer.proofs.search.start_at_guess.Given as goal

abbrev pub ghosts-skipped_to : goal.ghosts-skipped_to
ghosts-skipped_to a = record { name = a.blank.name; parts = a.blank.parts }
