use Rattle.layered_envelope.proofs.tests.first_member.Given as goal

abbrev pub ghosts-first_member_with : goal.ghosts-first_member_with
ghosts-first_member_with a = record { name = a.blank.name; parts = a.blank.parts }
