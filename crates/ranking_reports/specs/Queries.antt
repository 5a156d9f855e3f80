-- What `generate` asks of the program, read.
use Rattle.std.specs.Prelude.{ℕ}
use Rattle.peak_ranking.specs.RankQueries.{RankQuery}

-- the ranking of the peaks that a number makes
pub record GenerateQuery : Type 0 where
  pub number : ℕ
  pub ranking : RankQuery
