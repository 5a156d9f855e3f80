-- For private contracts and proofs: the misfit of the totals that are kept, by a column of intensities.
use Rattle.std.specs.Prelude.{ℕ, List, sum_by, slice_index}
use Rattle.std.specs.Int.{abs_diff}
use Rattle.prediction_score.specs.declared.shares.Total.{Total}
use Rattle.prediction_score.specs.Scores.{observed_share}

-- the intensity of a total's peak
abbrev pub intensity_of : List ℕ → Total → ℕ
intensity_of intensity total = slice_index intensity total.place

-- the sum of the intensities of the peaks of totals
abbrev pub total_intensity : List ℕ → List Total → ℕ
total_intensity intensity totals = sum_by (intensity_of intensity) totals

-- how far a total is from its peak's observed share
abbrev pub gap_of : List ℕ → ℕ → ℕ → Total → ℕ
gap_of intensity matched whole total =
    abs_diff total.lo (observed_share (intensity_of intensity total) matched whole)

-- the sum of these
abbrev pub misfit_of_totals : List ℕ → List Total → ℕ → ℕ
misfit_of_totals intensity totals matched =
    sum_by (gap_of intensity matched (total_intensity intensity totals)) totals
