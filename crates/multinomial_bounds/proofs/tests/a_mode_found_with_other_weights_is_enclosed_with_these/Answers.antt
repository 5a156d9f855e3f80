-- The two modes compute to the same counts.
use Rattle.multinomial_bounds.specs.Mode.{mode_of_atoms, next_isotope}
use Rattle.multinomial_bounds.proofs.tests.a_mode_found_with_other_weights_is_enclosed_with_these.Goals as goal

pub enclose-requires-clause-mode_of_these : goal.enclose-requires-clause-mode_of_these
unfolding mode_of_atoms next_isotope
enclose-requires-clause-mode_of_these g c = c.in_ok-mode.ensures.mode
