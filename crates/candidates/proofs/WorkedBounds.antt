-- Worked values of the bound on steps: two symbols of 10.00001 and 10 Da, and the window from 10 Da less 1 ppm to 10 Da
-- more 1 ppm, whose scaled window goes from 999999 to 1000001.
use Rattle.std.proofs.Common.{◌≡◌, ℕ, Some, None, List, [], ◌∷◌, refl}
use Rattle.mass_scaling.specs.declared.windows.Window.{Window}
use Rattle.decompose.specs.CountLists.{box_of}
use Rattle.candidates.specs.StepBounds.{most_candidate_steps}

abbrev masses : List ℕ
masses = 10000010000000 ∷ 10000000000000 ∷ []

abbrev scaled : Window
scaled = record { lo = 999999; hi = 1000001 }

to_first_candidate : most_candidate_steps masses scaled None (Some (0 ∷ 1 ∷ [])) ≡ 12
unfolding box_of
to_first_candidate = refl

to_second_candidate : most_candidate_steps masses scaled (Some (0 ∷ 1 ∷ [])) (Some (1 ∷ 0 ∷ [])) ≡ 12
unfolding box_of
to_second_candidate = refl

to_the_end : most_candidate_steps masses scaled (Some (1 ∷ 0 ∷ [])) None ≡ 4
unfolding box_of
to_the_end = refl
