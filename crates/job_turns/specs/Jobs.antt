-- A job: a finite list of items, behind which a stop may stand.
use Rattle.std.specs.Prelude.{◌≡◌, Bool, List, [], ◌∷◌, Option, Some, None, Result, Ok, Err, MatchBool, ⊤}

-- What the next call answers of a job with these items left and this stop, and what is left after it. It takes the
-- first item. Where no item is left it answers none, or the stop if there is one. A free fault may come in the place of
-- each, and then nothing is taken.
abbrev pub TakesNext : {Item Fault : Type 0} → (Fault → Bool) → Option Fault → List Item → Result (Option Item) Fault
    → List Item → Type 0
TakesNext is_free stop before (Ok (Some item)) after = before ≡ item ∷ after
TakesNext is_free stop before (Ok None) after = (before ≡ []) × (after ≡ []) × (stop ≡ None)
TakesNext is_free stop before (Err fault) after =
    (after ≡ before) × MatchBool (is_free fault) ⊤ ((before ≡ []) × (stop ≡ Some fault))
