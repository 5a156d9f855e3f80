-- How many steps an enumeration of candidates takes to its next one: each step is one probe of the table of residues.
use Rattle.std.specs.Prelude.{ℕ, ◌+◌, ◌*◌, ◌⊎◌, List, length, Option, Some, None, Result, Ok, Err}
use Rattle.mass_scaling.specs.declared.windows.Charged.{Charged}
use Rattle.mass_scaling.specs.declared.windows.Window.{Window}
use Rattle.mass_scaling.specs.Windows.{IsWindow, IsWindowOf, NoMassIsWithin}
use Rattle.decompose.specs.StepBounds.{HasNoScaledWindow, IsScaledWindowOf, most_atoms, number_between}
use Rattle.written_items.specs.declared.item.Item.{Item}
use Rattle.alphabet_text.specs.declared.entries.AlphabetEntry.{AlphabetEntry}
use Rattle.adducts.specs.Adducts.{divisor_of}
use Rattle.adducts.specs.Ions.{shift_of}
use Rattle.candidates.specs.Enumeration.{CandidateEnumeration}
use Rattle.candidates.specs.Grounds.{GroundValue}
use Rattle.candidates.specs.PeakFormulas.{counts_in, masses_of}

-- the ions of the adduct as a window takes them
abbrev pub charged_of : GroundValue → Charged
charged_of premises =
    record {
      copies = premises.adduct.copies;
      divisor = divisor_of premises.adduct;
      shift = shift_of premises.table premises.adduct;
    }

-- the window of a peak: that of the masses whose ions are within tolerance of its m/z
pub record IsPeakWindow (premises : GroundValue) (mz : ℕ) (window : Window) : Type 0 where
  pub is_window : IsWindow window
  pub of_peak : IsWindowOf mz premises.tolerance (charged_of premises) window

-- a peak has no window: no ion of a mass is within tolerance of its m/z
abbrev pub HasNoPeakWindow : GroundValue → ℕ → Type 0
HasNoPeakWindow premises mz = NoMassIsWithin mz premises.tolerance (charged_of premises)

-- the scaled window of a peak: that of its window
pub record IsScaledPeakWindow (e : CandidateEnumeration) (scaled : Window) : Type 0 where
  pub window : Window
  pub of_peak : IsPeakWindow e.premises e.mz window
  pub of_window : IsScaledWindowOf (masses_of e.premises.alphabet) window scaled

-- a peak without a scaled window: it has no window, or its window has no scaled one
abbrev pub HasNoScaledPeakWindow : CandidateEnumeration → Type 0
HasNoScaledPeakWindow e =
    HasNoPeakWindow e.premises e.mz
    ⊎ ((window : Window) × IsPeakWindow e.premises e.mz window
    × HasNoScaledWindow (masses_of e.premises.alphabet) window)

-- the counts of the formula that a call gives, if it gives one
abbrev pub counts_given : {E : Type 0} → List AlphabetEntry → Result (Option (List (Item × ℕ))) E → Option (List ℕ)
counts_given alphabet (Ok (Some formula)) = Some (counts_in alphabet formula)
counts_given alphabet (Ok None) = None
counts_given alphabet (Err e) = None

-- the most steps from one candidate to another, or from the start, or to the end: twice for each count list between
-- them in the scaled window, since each may be none
abbrev pub most_candidate_steps : List ℕ → Window → Option (List ℕ) → Option (List ℕ) → ℕ
most_candidate_steps masses scaled after upto =
    length masses * (most_atoms masses scaled + 1) * (2 * number_between masses scaled after upto + 1)
