-- What is asked of a ranking of peaks. A peak is the pair of its m/z, in 10^-12 Da, and its intensity, in 10^-6.
use Rattle.std.specs.Prelude.{ℕ, ◌+◌, ◌*◌, ◌^◌, ◌≤◌, List, length, Option}
use Rattle.candidates.specs.Grounds.{GroundValue}

-- Peaks of a list whose candidates are ranked: so many, from a place on that is counted from 0. Each is a job. The jobs
-- take turns in rounds, of which each allows so many candidates: so many turns, or, without a number, as many as it
-- takes. A cover is for a coverage in 10^-18.
pub record RankQuery : Type 0 where
  pub premises : GroundValue
  pub peaks : List (ℕ × ℕ)
  pub first : ℕ
  pub jobs : ℕ
  pub coverage : ℕ
  pub turn : ℕ
  pub turns : Option ℕ

-- the peaks are of the list, the coverage is in its range, and a turn allows a candidate
pub record IsRankQuery (query : RankQuery) : Type 0 where
  pub inside : query.first + query.jobs ≤ length query.peaks
  pub coverage_from : 1 ≤ query.coverage
  pub coverage_to : query.coverage ≤ 999999 * 10 ^ 12
  pub some_turn : 1 ≤ query.turn
