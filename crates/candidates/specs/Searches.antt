-- For proofs alone: where the search for the candidates of a peak stands.
use Rattle.std.specs.Prelude.{ℕ, pos, ◌*◌, ◌+ℤ◌, ◌≡◌, Bool, true, false, ◌&&◌, List, [], ◌∷◌, ◌++◌, length, filter, if◌then◌else◌, is_some, Option, Some}
use Rattle.std.specs.Prelude.{◌+◌, ◌≤◌}
use Rattle.decompose.specs.CountLists.{IsInBox, follows}
use Rattle.decompose.specs.Enumeration.{Enumeration, left, is_within}
use Rattle.decompose.specs.Masses.{mass_of}
use Rattle.decompose.specs.StepBounds.{HasNoScaledWindow, IsScaledWindowOf}
use Rattle.mass_scaling.specs.declared.windows.Window.{Window}
use Rattle.mass_scaling.specs.Tolerances.{within}
use Rattle.formula_text.specs.Formulas.{formula_in, within_limits}
use Rattle.written_items.specs.declared.item.Item.{Item}
use Rattle.golden_rules.specs.Verdicts.{meets_all}
use Rattle.adducts.specs.Adducts.{divisor_of}
use Rattle.adducts.specs.Ions.{ion_of, shift_of}
use Rattle.candidates.specs.declared.search.Search.{Search}
use Rattle.candidates.specs.Grounds.{GroundValue}
use Rattle.candidates.specs.StepBounds.{most_candidate_steps}
use Rattle.candidates.specs.PeakFormulas.{formula_at, is_candidate, limits_of, masses_of}

-- whether a formula is one within the limits, has an ion and meets the rules
abbrev pub passes : GroundValue → List (Item × ℕ) → Bool
passes premises formula =
    is_some (formula_in (within_limits formula)) && is_some (ion_of premises.adduct formula)
    && meets_all premises.table premises.rules formula

-- the same of the formula of a count list
abbrev pub is_formed : GroundValue → List ℕ → Bool
is_formed premises counts = passes premises (formula_at premises.alphabet counts)

-- a count list that is still to be tested
abbrev pub pending : Bool → List ℕ → List (List ℕ)
pending is_pending counts = if is_pending then counts ∷ [] else []

-- the count lists that are still to be tested
abbrev pub todo : Search → List (List ℕ)
todo search = pending search.is_pending search.counts ++ left search.decomps

-- each count list with its mass in the window is a candidate, but for the tolerance
abbrev pub IsSure : GroundValue → Window → Type 0
IsSure premises window =
    (counts : List ℕ) → is_within window (mass_of (masses_of premises.alphabet) counts) ≡ true
    → is_formed premises counts ≡ true

-- the mass of a count list is in the window
abbrev pub IsInWindow : Enumeration → List ℕ → Type 0
IsInWindow decomps counts = is_within decomps.window (mass_of decomps.masses counts) ≡ true

-- the search goes over the alphabet's box, and a count list to be tested was taken last
pub record IsSearch (premises : GroundValue) (search : Search) : Type 0 where
  pub masses : search.decomps.masses ≡ masses_of premises.alphabet
  pub limits : search.decomps.limits ≡ limits_of premises.alphabet
  pub size : length search.counts ≡ length premises.alphabet
  pub room : length search.room.items ≡ length premises.alphabet
  pub taken : search.is_pending ≡ true → search.decomps.given ≡ Some search.counts
  pub in_box : search.is_pending ≡ true → IsInBox search.decomps.limits search.counts
  pub in_window : search.is_pending ≡ true → IsInWindow search.decomps search.counts
  pub sure : search.is_sure ≡ true → IsSure premises search.decomps.window

-- it goes over the same masses, limits and window, and not back
pub record GoesOn (old new : Search) : Type 0 where
  pub masses : new.decomps.masses ≡ old.decomps.masses
  pub limits : new.decomps.limits ≡ old.decomps.limits
  pub window : new.decomps.window ≡ old.decomps.window
  pub later : (counts : List ℕ) → follows new.decomps.given counts ≡ true → follows old.decomps.given counts ≡ true

pub record Takes (old new : Search) (taken : Bool) : Type 0 where
  pub goes : GoesOn old new
  pub size : length new.counts ≡ length old.counts
  pub room : new.room ≡ old.room
  pub sure : new.is_sure ≡ old.is_sure
  pub is : new.is_pending ≡ taken
  pub same : todo new ≡ todo old
  pub none : taken ≡ false → left new.decomps ≡ []
  pub kept : old.is_pending ≡ true → (new.counts ≡ old.counts) × (new.decomps.given ≡ old.decomps.given)
  pub given : old.is_pending ≡ false → taken ≡ true → new.decomps.given ≡ Some new.counts
  pub in_box : old.is_pending ≡ false → taken ≡ true → IsInBox old.decomps.limits new.counts
  pub in_window : old.is_pending ≡ false → taken ≡ true → IsInWindow old.decomps new.counts
  pub follows : old.is_pending ≡ false → taken ≡ true → follows old.decomps.given new.counts ≡ true

-- the steps of a search up to a count list, or to its end
pub record IsBounded (old : Search) (upto : Option (List ℕ)) (before after : ℕ) : Type 0 where
  pub most : (scaled : Window) → IsScaledWindowOf old.decomps.masses old.decomps.window scaled
      → after ≤ before + most_candidate_steps old.decomps.masses scaled old.decomps.given upto
  pub none : HasNoScaledWindow old.decomps.masses old.decomps.window → after ≡ before

abbrev pub candidates_in : GroundValue → ℕ → List (List ℕ) → List (List ℕ)
candidates_in premises mz list = filter (is_candidate premises mz) list

-- what is left when the search ends: the list taken last is a candidate that is to be given, or there is none
abbrev pub Outcome : GroundValue → ℕ → Search → Search → Bool → Type 0
Outcome premises mz old new true =
    (new.is_pending ≡ true) × (is_candidate premises mz new.counts ≡ true)
    × (candidates_in premises mz (todo new) ≡ candidates_in premises mz (todo old))
Outcome premises mz old new false =
    (candidates_in premises mz (todo old) ≡ []) × (candidates_in premises mz (todo new) ≡ [])

pub record Finds (premises : GroundValue) (mz : ℕ) (old new : Search) (found : Bool) : Type 0 where
  pub stands : IsSearch premises new
  pub goes : GoesOn old new
  pub outcome : Outcome premises mz old new found

-- each candidate has its mass in the window
abbrev pub Covers : GroundValue → ℕ → Window → Type 0
Covers premises mz window =
    (counts : List ℕ) → is_candidate premises mz counts ≡ true
    → is_within window (mass_of (masses_of premises.alphabet) counts) ≡ true

-- the ion of each mass in the window is within tolerance
abbrev pub Admits : GroundValue → ℕ → Window → Type 0
Admits premises mz window =
    (counts : List ℕ) → is_within window (mass_of (masses_of premises.alphabet) counts) ≡ true
    → within (pos (premises.adduct.copies * mass_of (masses_of premises.alphabet) counts)
    +ℤ shift_of premises.table premises.adduct) mz premises.tolerance (divisor_of premises.adduct) ≡ true
