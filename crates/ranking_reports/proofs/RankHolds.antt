-- What is printed of ranked peaks holds.
use Rattle.std.proofs.Common.{◌+◌}
use Rattle.prediction_score.specs.Matches.{mz_at}
use Rattle.peak_ranking.specs.RankClaims.{AreRankedParts}
use Rattle.peak_ranking.specs.RankQueries.{RankQuery}
use Rattle.peak_formulas.proofs.PeakLists.{all_of_peak}
use Rattle.ranking_reports.specs.Claims.{RanksTrue}

pub ranks-true : (query : RankQuery) → AreRankedParts query → RanksTrue query
ranks-true query parts = record {
  parts = parts;
  all = λ index. all_of_peak query.premises (mz_at query.peaks (query.first + index));
}
