-- For proofs alone: what holds of an enumeration of candidates wherever it stands.
use Rattle.std.specs.Prelude.{ℕ, ◌≡◌, ◌≤◌, ◌⊎◌, Bool, true, List, is_some, Option, Some, None, IfSome, if◌then◌else◌}
use Rattle.decompose.specs.CountLists.{IsInBox, follows}
use Rattle.decompose.specs.Enumeration.{after_given}
use Rattle.mass_scaling.specs.declared.windows.Window.{Window}
use Rattle.mass_scaling.specs.declared.limits.TheConstants.{MAX_MZ}
use Rattle.formula_text.specs.Formulas.{formula_of}
use Rattle.candidates.specs.declared.search.Search.{Search}
use Rattle.candidates.specs.Grounds.{GroundValue, IsGround}
use Rattle.candidates.specs.PeakFormulas.{formulas_of_peak, counts_of, limits_of}
use Rattle.candidates.specs.StepBounds.{HasNoPeakWindow, IsPeakWindow}
use Rattle.candidates.specs.Searches.{IsSearch, Covers, Admits, candidates_in, todo}

abbrev pub given_if : Bool → List ℕ → Option (List ℕ)
given_if has_given last = if has_given then Some last else None

-- a count list up to which it has come: one of the box that is a formula
pub record IsToken (premises : GroundValue) (counts : List ℕ) : Type 0 where
  pub in_box : IsInBox (limits_of premises.alphabet) counts
  pub is_formula : is_some (formula_of (counts_of premises.alphabet counts)) ≡ true

-- the window that is searched: that of the peak; or the peak has none, and this one is as good
abbrev pub IsSearched : GroundValue → ℕ → Window → Type 0
IsSearched premises mz window =
    IsPeakWindow premises mz window ⊎ (HasNoPeakWindow premises mz × (window ≡ record { lo = 1; hi = 1 }))

pub record IsStanding (premises : GroundValue) (mz : ℕ) (search : Search) (given : Option (List ℕ)) : Type 0 where
  pub is_ground : IsGround premises
  pub some_mz : 1 ≤ mz
  pub few_mz : mz ≤ MAX_MZ
  pub is_search : IsSearch premises search
  pub covers : Covers premises mz search.decomps.window
  pub admits : Admits premises mz search.decomps.window
  pub searched : IsSearched premises mz search.decomps.window
  pub token : IfSome given (IsToken premises)
  pub later : (counts : List ℕ) → follows search.decomps.given counts ≡ true → follows given counts ≡ true
  pub rest : after_given (formulas_of_peak premises mz) given ≡ candidates_in premises mz (todo search)
