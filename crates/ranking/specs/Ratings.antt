-- For private contracts: what one candidate of a task is ranked by, and which candidates wait.
use Rattle.std.specs.Prelude.{ℕ, ◌≡◌, ◌≤◌, true, false, List, [], ◌∷◌, ◌++◌, Option, Some, None, Result, Ok, Err}
use Rattle.written_items.specs.declared.item.Item.{Item}
use Rattle.prediction_score.specs.Scores.{score_of}
use Rattle.adducts.specs.Adducts.{divisor_of}
use Rattle.candidates.specs.Enumeration.{formulas_left}
use Rattle.ranking.specs.declared.fault.RankFault.{RankFault}
use Rattle.ranking.specs.declared.fault.RankFault.TheVariants.{TooMany, Layer, Memory}
use Rattle.ranking.specs.declared.task.Order.{Order}
use Rattle.ranking.specs.declared.task.Order.TheVariants.{Own, Shared}
use Rattle.ranking.specs.declared.task.Task.{Task}
use Rattle.ranking.specs.declared.task.Rating.{Rating}
use Rattle.ranking.specs.declared.waiting.Waiting.{Waiting}
use Rattle.ranking.specs.Places.{RankedEntry}
use Rattle.ranking.specs.Predictions.{PredictionEntries}
use Rattle.ranking.specs.Rankings.{RankTask, ion_in, is_over_limit, number_of, ranked}

-- the peaks of an order
abbrev pub peaks_of : Order → List (ℕ × ℕ)
peaks_of (Own order) = order
peaks_of (Shared order) = order.now

abbrev pub task_of : Task → RankTask
task_of task =
    record { premises = task.premises.now; peaks = peaks_of task.order; place = task.place; coverage = task.coverage }

-- a candidate with its rating
abbrev pub with_rating : List (Item × ℕ) → Rating → RankedEntry
with_rating formula rating =
    record { formula = formula; score = rating.score; size = rating.size; bound = rating.bound }

-- the rating of a candidate, or that it is over the limit, or want of memory
abbrev pub RatedAs : RankTask → List (Item × ℕ) → Result Rating RankFault → Type 0
RatedAs task formula (Ok rating) =
    (is_over_limit task formula ≡ false) × (with_rating formula rating ≡ ranked task formula)
RatedAs task formula (Err (Layer peak ion)) =
    (is_over_limit task formula ≡ true) × (peak ≡ number_of task) × (ion ≡ ion_in task formula)
RatedAs task formula (Err (TooMany peak)) = ⊥
RatedAs task formula (Err Memory) = Unit {0}

-- the rating of a prediction
abbrev pub IsRatingOf : RankTask → PredictionEntries → Rating → Type 0
IsRatingOf task prediction rating =
    (rating.score ≡ score_of task.peaks (divisor_of task.premises.adduct) task.premises.tolerance prediction.members)
    × (rating.size ≡ prediction.size) × (rating.bound ≡ prediction.bound)

-- the candidates that wait: one that was taken, and those that weren't yet
abbrev pub first_if : Option (List (Item × ℕ)) → List (List (Item × ℕ))
first_if None = []
first_if (Some formula) = formula ∷ []

abbrev pub waiting_of : Waiting → List (List (Item × ℕ))
waiting_of waiting = first_if waiting.first ++ formulas_left waiting.candidates

-- the first that waits is taken, or none waits
abbrev pub TakesFirst : List (List (Item × ℕ)) → Option (List (Item × ℕ)) → List (List (Item × ℕ)) → Type 0
TakesFirst before (Some formula) after = before ≡ formula ∷ after
TakesFirst before None after = (before ≡ []) × (after ≡ [])

-- The stop that comes at a candidate of which so many may still be given: it is one too many, or over the limit.
abbrev pub StopsAt : RankTask → ℕ → List (Item × ℕ) → RankFault → Type 0
StopsAt task room formula (TooMany peak) = (room ≡ 0) × (peak ≡ number_of task)
StopsAt task room formula (Layer peak ion) =
    (1 ≤ room) × (is_over_limit task formula ≡ true) × (peak ≡ number_of task) × (ion ≡ ion_in task formula)
StopsAt task room formula Memory = Unit {0}

-- the rating of a candidate of which so many may still be given, or the stop, or want of memory
abbrev pub RatedWithin : RankTask → ℕ → List (Item × ℕ) → Result Rating RankFault → Type 0
RatedWithin task room formula (Ok rating) =
    (1 ≤ room) × (is_over_limit task formula ≡ false) × (with_rating formula rating ≡ ranked task formula)
RatedWithin task room formula (Err fault) = StopsAt task room formula fault
