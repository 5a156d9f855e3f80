-- The ranking of a peak's candidates: each with the score of its ion's prediction, as far as a stop.
use Rattle.std.specs.Prelude.{ℕ, ◌+◌, Bool, nat_lt, List, length, map, find, take, Option, Some, None, unwrap_or}
use Rattle.std.specs.Prelude.{[], true, false, Result, Ok, Err, if◌then◌else◌}
use Rattle.std.specs.List.{before_first}
use Rattle.isotopologue_sets.specs.Layers.{has_too_many, last_threshold_for}
use Rattle.written_items.specs.declared.item.Item.{Item}
use Rattle.isotopologue_text.specs.Isotopologues.{formula_elements}
use Rattle.cover_certificate.specs.FormulaCovers.{cover_of}
use Rattle.prediction_score.specs.Matches.{mz_at}
use Rattle.prediction_score.specs.Scores.{score_of}
use Rattle.adducts.specs.Adducts.{divisor_of}
use Rattle.adducts.specs.Ions.{ion_of}
use Rattle.candidates.specs.Grounds.{GroundValue}
use Rattle.candidates.specs.PeakFormulas.{formula_at, formulas_of_peak}
use Rattle.ranking.specs.declared.fault.RankFault.{RankFault}
use Rattle.ranking.specs.declared.fault.RankFault.TheVariants.{TooMany, Layer, Memory}
use Rattle.ranking.specs.declared.limits.TheConstants.{MAX_CANDIDATES}
use Rattle.ranking.specs.Places.{RankedEntry, by_score}
use Rattle.ranking.specs.Predictions.{PredictionEntries, prediction_of}

-- what is ranked: the candidates of the peak at a place of a peak list, from 0 on, for a coverage
pub record RankTask : Type 0 where
  pub premises : GroundValue
  pub peaks : List (ℕ × ℕ)
  pub place : ℕ
  pub coverage : ℕ

-- the candidates of the peak in their order, by their formulas
abbrev pub candidates_of : RankTask → List (List (Item × ℕ))
candidates_of task =
    map (formula_at task.premises.alphabet) (formulas_of_peak task.premises (mz_at task.peaks task.place))

-- the ion of a candidate, which has one
abbrev pub ion_in : RankTask → List (Item × ℕ) → List (Item × ℕ)
ion_in task formula = unwrap_or (ion_of task.premises.adduct formula) []

-- whether a candidate is over the limit: a layer of its ion has too many members and none before it has the coverage
abbrev pub is_over_limit : RankTask → List (Item × ℕ) → Bool
is_over_limit task formula =
    let elements = formula_elements task.premises.table (ion_in task formula) in
    has_too_many elements (last_threshold_for elements task.coverage)

-- the prediction of a candidate's ion
abbrev pub prediction_in : RankTask → List (Item × ℕ) → PredictionEntries
prediction_in task formula =
    prediction_of task.premises.table task.premises.adduct.charge
    (cover_of task.premises.table (ion_in task formula) task.coverage)

-- a candidate with the score, the size and the bound of a prediction
abbrev pub ranked_by : RankTask → List (Item × ℕ) → PredictionEntries → RankedEntry
ranked_by task formula prediction =
    record {
      formula = formula;
      score = score_of task.peaks (divisor_of task.premises.adduct) task.premises.tolerance prediction.members;
      size = prediction.size;
      bound = prediction.bound;
    }

-- a candidate with those of its ion's prediction
unfoldable pub ranked : RankTask → List (Item × ℕ) → RankedEntry
ranked task formula = ranked_by task formula (prediction_in task formula)

-- Of candidates, of which so many may be given, those before the first that is over the limit, ranked.
abbrev pub ranked_among : RankTask → ℕ → List (List (Item × ℕ)) → List RankedEntry
ranked_among task most formulas = map (ranked task) (before_first (is_over_limit task) (take most formulas))

-- the number of the peak, from 1 on
abbrev pub number_of : RankTask → ℕ
number_of task = task.place + 1

-- The stop behind them: the first that is over the limit, and else that there are more candidates than may be given.
abbrev pub stop_with : RankTask → Bool → Option (List (Item × ℕ)) → Option RankFault
stop_with task many (Some formula) = Some (Layer (number_of task) (ion_in task formula))
stop_with task many None = if many then Some (TooMany (number_of task)) else None

abbrev pub stop_among : RankTask → ℕ → List (List (Item × ℕ)) → Option RankFault
stop_among task most formulas =
    stop_with task (nat_lt most (length formulas)) (find (is_over_limit task) (take most formulas))

-- the most candidates of a peak
abbrev pub max_candidates : ℕ
max_candidates = MAX_CANDIDATES

-- the list of a task: the candidates of the peak in their order, each ranked, as far as the stop
unfoldable pub ranked_list : RankTask → List RankedEntry
ranked_list task = ranked_among task max_candidates (candidates_of task)

-- the stop of a task, if there is one
unfoldable pub stop_of : RankTask → Option RankFault
stop_of task = stop_among task max_candidates (candidates_of task)

-- the whole ranking of a task by rising score, or its stop
abbrev pub unless_stopped : Option RankFault → List RankedEntry → Result (List RankedEntry) RankFault
unless_stopped None found = Ok (by_score found)
unless_stopped (Some stop) found = Err stop

-- whether it is want of memory
abbrev pub is_memory : RankFault → Bool
is_memory Memory = true
is_memory (TooMany peak) = false
is_memory (Layer peak formula) = false
