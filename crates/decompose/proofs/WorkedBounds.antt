-- Worked values of the bound on steps: two symbols of 10.00001 and 10 Da, and the window from 10 Da less 1 ppm to 10 Da
-- more 1 ppm, whose scaled window goes from 999999 to 1000001.
use Rattle.std.proofs.Common.{◌≡◌, ℕ, Some, None, List, [], ◌∷◌, refl}
use Rattle.mass_scaling.specs.declared.windows.Window.{Window}
use Rattle.decompose.specs.StepBounds.{most_atoms, most_steps}
use Rattle.decompose.specs.CountLists.{box_of}

abbrev masses : List ℕ
masses = 10000010000000 ∷ 10000000000000 ∷ []

abbrev scaled : Window
scaled = record { lo = 999999; hi = 1000001 }

one_atom : most_atoms masses scaled ≡ 1
one_atom = refl

to_first_list : most_steps masses scaled None (Some (0 ∷ 1 ∷ [])) ≡ 8
unfolding box_of
to_first_list = refl

to_second_list : most_steps masses scaled (Some (0 ∷ 1 ∷ [])) (Some (1 ∷ 0 ∷ [])) ≡ 8
unfolding box_of
to_second_list = refl

to_the_end : most_steps masses scaled (Some (1 ∷ 0 ∷ [])) None ≡ 4
unfolding box_of
to_the_end = refl
