-- Each candidate that is left is one from which an enumeration can go on.
use Rattle.std.proofs.Common.{ℕ, List, get_or}
use Rattle.std.specs.Prelude.{Option, Some, None, All, filter}
use Rattle.std.proofs.lemmas.List.Elements.{All-filter, All-from_recursion, filter_passes}
use Rattle.decompose.specs.CountLists.{IsInBox, box_of, comes_after}
use Rattle.decompose.specs.Enumeration.{after_given, lists_after}
use Rattle.decompose.proofs.FirstOfBox.{IsInBox-box}
use Rattle.candidates.specs.Grounds.{GroundValue}
use Rattle.candidates.specs.PeakFormulas.{formulas_of_peak, is_candidate, limits_of}
use Rattle.candidates.specs.Standings.{IsToken}
use Rattle.candidates.proofs.StandingSteps.{candidate-formula}

all-tokens : (premises : GroundValue) (mz : ℕ) → All (IsToken premises) (formulas_of_peak premises mz)
unfolding formulas_of_peak
all-tokens premises mz = λ k d h.
    let limits = limits_of premises.alphabet in
    record {
      in_box =
          All-filter (is_candidate premises mz) (IsInBox limits) (box_of limits)
          (All-from_recursion (IsInBox limits) (box_of limits) (IsInBox-box limits)) k d h;
      is_formula =
          candidate-formula premises mz (get_or (filter (is_candidate premises mz) (box_of limits)) k d)
          (filter_passes (is_candidate premises mz) (box_of limits) k d h);
    }

pub left-tokens : (premises : GroundValue) (mz : ℕ) (given : Option (List ℕ))
    → All (IsToken premises) (after_given (formulas_of_peak premises mz) given)
unfolding lists_after
left-tokens premises mz None = all-tokens premises mz
left-tokens premises mz (Some counts) =
    All-filter (comes_after counts) (IsToken premises) (formulas_of_peak premises mz) (all-tokens premises mz)
