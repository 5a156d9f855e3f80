-- The peaks of formulas: of an ion's mass, in 10^-12 Da.
use Rattle.std.specs.Prelude.{ℕ, ℤ, pos, negsuc, ◌+◌, List, position, is_none, if◌then◌else◌, Option, Some, None, option_map, Result, Ok}
use Rattle.std.specs.List.{filter_map}
use Rattle.reader_answers.specs.Answers.{unless_fault}
use Rattle.element_table.specs.Elements.{TableEntries}
use Rattle.written_items.specs.declared.item.Item.{Item}
use Rattle.adducts.specs.Adducts.{AdductValue}
use Rattle.adducts.specs.Ions.{ion_mass}
use Rattle.peak_text.specs.PeakLists.{is_peak}
use Rattle.peak_text.specs.declared.fault.PeakFault.{PeakFault}
use Rattle.peak_text.specs.declared.fault.PeakFault.TheVariants as fault
use Rattle.peak_generator.specs.declared.peaks.TheConstants.{MADE_INTENSITY}

-- the peak of an ion of one charge, where its mass is an m/z in the limits
abbrev pub peak_of_mass : Option ℤ → Option (ℕ × ℕ)
peak_of_mass None = None
peak_of_mass (Some (negsuc below)) = None
peak_of_mass (Some (pos mass)) = if is_peak (mass, MADE_INTENSITY) then Some (mass, MADE_INTENSITY) else None

-- the peak of the ion of a formula
abbrev pub made_peak : TableEntries → AdductValue → List (Item × ℕ) → Option (ℕ × ℕ)
made_peak table adduct formula = peak_of_mass (ion_mass table adduct formula)

-- the place, from 0, of the first formula without a peak
abbrev pub place_without : TableEntries → AdductValue → List (List (Item × ℕ)) → Option ℕ
place_without table adduct formulas = position (λ formula. is_none (made_peak table adduct formula)) formulas

-- The peaks of formulas. Where a formula has none, its m/z has the fault that it would have in a file, in which the
-- first peak is record 2.
unfoldable pub made_peaks : TableEntries → AdductValue → List (List (Item × ℕ)) → Result (List (ℕ × ℕ)) PeakFault
made_peaks table adduct formulas =
    unless_fault (option_map (λ place. fault.Mz (place + 2)) (place_without table adduct formulas))
    (Ok (filter_map (made_peak table adduct) formulas))
