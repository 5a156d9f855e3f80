-- The score of the members of a prediction against a peak list. Masses are in 10^-12 Da, lower bounds of
-- probabilities and the score in 10^-18, intensities in 10^-6.
use Rattle.std.specs.Prelude.{ℕ, pos, ◌+◌, ◌*◌, ◌/◌, ◌≤◌, ◌≤ℤ◌, ◌==◌, Bool, false, List, length, map, filter, sum_by}
use Rattle.std.specs.Prelude.{if◌then◌else◌, Option, Some, None, is_some, slice_index_or, All}
use Rattle.std.specs.List.{list_any, range_with_len}
use Rattle.std.specs.Int.{abs_diff}
use Rattle.mass_scaling.specs.Limits.{IsTolerance}
use Rattle.mass_scaling.specs.declared.limits.TheConstants.{MAX_DIVISOR, MAX_ION_MASS}
use Rattle.mass_scaling.specs.declared.tolerances.Tolerance.{Tolerance}
use Rattle.prediction_score.specs.declared.predicted.Predicted.{Predicted}
use Rattle.prediction_score.specs.declared.predicted.TheConstants.{MAX_LO_TOTAL}
use Rattle.prediction_score.specs.Matches.{peak_of}

-- a divisor from 1 to 30, and a tolerance in its limits
pub record AreTerms (divisor : ℕ) (tolerance : Tolerance) : Type 0 where
  pub charged : 1 ≤ divisor
  pub divisor_in_range : divisor ≤ MAX_DIVISOR
  pub tolerance_in_range : IsTolerance tolerance

-- a mass from 10^-12 to 9,000,000 Da
pub record IsPredicted (member : Predicted) : Type 0 where
  pub some_mass : pos 1 ≤ℤ member.mass
  pub mass_in_range : member.mass ≤ℤ pos MAX_ION_MASS

-- such members, whose lower bounds total at most 1
pub record ArePredicted (members : List Predicted) : Type 0 where
  pub masses : All IsPredicted members
  pub lo_total : sum_by (λ m. m.lo) members ≤ MAX_LO_TOTAL

-- each member's peak, if it has one, and its `lo`
abbrev pub Match : Type 0
Match = Option ℕ × ℕ

abbrev pub matches_of : List (ℕ × ℕ) → ℕ → Tolerance → List Predicted → List Match
matches_of peaks divisor tolerance members =
    map (λ m. (peak_of peaks divisor tolerance m.mass, m.lo)) members

-- whether a peak is the one at this place
abbrev pub is_at : Option ℕ → ℕ → Bool
is_at None place = false
is_at (Some own) place = own == place

-- a_j, the `lo` total of the members at the peak at a place
abbrev pub lo_at : List Match → ℕ → ℕ
lo_at matches place = sum_by (λ m. if is_at m.0 place then m.1 else 0) matches

-- whether the peak at a place got a member
abbrev pub has_member : List Match → ℕ → Bool
has_member matches place = list_any (λ m. is_at m.0 place) matches

-- the places of the peaks that got a member, among so many
abbrev pub matched_places : List Match → ℕ → List ℕ
matched_places matches peak_count = filter (has_member matches) (range_with_len 0 peak_count)

-- the `lo` total of the unmatched members
abbrev pub unmatched_lo : List Match → ℕ
unmatched_lo matches = sum_by (λ m. if is_some m.0 then 0 else m.1) matches

-- I_j, the intensity of the peak at a place
abbrev pub intensity_at : List (ℕ × ℕ) → ℕ → ℕ
intensity_at peaks place = (slice_index_or peaks place (0, 0)).1

-- o_j, the observed share of a peak of this intensity, by S, the `lo` total of the matched members, and I, the sum of
-- the intensities of their peaks; 0 where I is 0
abbrev pub observed_share : ℕ → ℕ → ℕ → ℕ
observed_share intensity lo_total intensity_total =
    if intensity_total == 0 then 0 else intensity * lo_total / intensity_total

-- the sum of |a_j - o_j| over these places, by S and I
abbrev pub misfit_with : List (ℕ × ℕ) → List Match → List ℕ → ℕ → ℕ → ℕ
misfit_with peaks matches places lo_total intensity_total =
    sum_by (λ j. abs_diff (lo_at matches j) (observed_share (intensity_at peaks j) lo_total intensity_total)) places

-- the same, with S and I of these places
abbrev pub misfit_of : List (ℕ × ℕ) → List Match → List ℕ → ℕ
misfit_of peaks matches places =
    misfit_with peaks matches places (sum_by (lo_at matches) places) (sum_by (intensity_at peaks) places)

-- the score of matches: the `lo` total of the unmatched members, and how far the peaks that got a member are from their
-- observed shares
abbrev pub match_score : List (ℕ × ℕ) → List Match → ℕ
match_score peaks matches =
    unmatched_lo matches + misfit_of peaks matches (matched_places matches (length peaks))

-- the score of members
unfoldable pub score_of : List (ℕ × ℕ) → ℕ → Tolerance → List Predicted → ℕ
score_of peaks divisor tolerance members = match_score peaks (matches_of peaks divisor tolerance members)
