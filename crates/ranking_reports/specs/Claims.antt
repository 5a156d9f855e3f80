-- What holds of what is printed of ranked peaks.
use Rattle.std.specs.Prelude.{ℕ, ◌+◌}
use Rattle.candidates.specs.PeakFormulas.{formulas_of_peak}
use Rattle.prediction_score.specs.Matches.{mz_at}
use Rattle.peak_ranking.specs.RankClaims.{AreRankedParts}
use Rattle.peak_ranking.specs.RankQueries.{RankQuery}
use Rattle.peak_formulas.specs.PeakClaims.{AreAllOfPeak}

-- What is printed of ranked peaks: under each job the part of its list that its turns allow, by rising score; and the
-- candidates, of which that is the first part, are exactly the formulas of the peak.
pub record RanksTrue (query : RankQuery) : Type 0 where
  pub parts : AreRankedParts query
  pub all : (index : ℕ) → AreAllOfPeak query.premises (mz_at query.peaks (query.first + index))
      (formulas_of_peak query.premises (mz_at query.peaks (query.first + index)))
