-- What a job has left, at its beginning and as it goes on.
use Rattle.std.proofs.Common.{◌≡◌, ℕ, ◌-◌, List, [], ◌∷◌, Ok, ap, sym, subst, ◌∙◌, All}
use Rattle.std.specs.Prelude.{Some, Result, IfOk, MatchBool, ⊤}
use Rattle.std.proofs.lemmas.List.Elements.{All-head, All-tail}
use Rattle.std.proofs.lemmas.Result.{IfOk-weaker}
use Rattle.written_items.specs.declared.item.Item.{Item}
use Rattle.ranking.specs.declared.fault.RankFault.{RankFault}
use Rattle.ranking.specs.declared.fault.RankFault.TheVariants.{TooMany, Layer, Memory}
use Rattle.ranking.specs.declared.task.Rating.{Rating}
use Rattle.ranking.specs.Places.{RankedEntry}
use Rattle.ranking.specs.Rankings.{RankTask, is_memory, number_of, ranked_among, ranked_list, stop_among, stop_of}
use Rattle.ranking.specs.RankJobs.{RankState, HasIon, IsState, begun, list_left, stop_left}
use Rattle.ranking.specs.Ratings.{RatedWithin, StopsAt, with_rating}
use Rattle.ranking.proofs.JobSteps.{gives-first, stops-many, stops-over}

-- ---- at its beginning

module _ {E : Type 0} (made : Result RankState E) (given task : RankTask) (same : given ≡ task)
    (begins : IfOk made (λ job. job ≡ begun given)) where
  begins-task : IfOk made (λ job. job ≡ begun task)
  begins-task = subst (λ (t : RankTask). IfOk made (λ job. job ≡ begun t)) same begins

  pub begun-list : IfOk made (λ job. list_left job ≡ ranked_list task)
  unfolding ranked_list
  begun-list =
      IfOk-weaker made (λ job. job ≡ begun task) (λ job. list_left job ≡ ranked_list task) (λ job is. ap list_left is)
      begins-task

  pub begun-stop : IfOk made (λ job. stop_left job ≡ stop_of task)
  unfolding stop_of
  begun-stop =
      IfOk-weaker made (λ job. job ≡ begun task) (λ job. stop_left job ≡ stop_of task) (λ job is. ap stop_left is)
      begins-task

-- ---- as it goes on

-- a job that stands before a candidate and those behind it
module _ (before job : RankState) (is : job ≡ before) (f : List (Item × ℕ)) (fs : List (List (Item × ℕ)))
    (first : job.formulas ≡ f ∷ fs) where
  -- the job with those behind the candidate
  abbrev behind : ℕ → RankState
  behind room = record { task = job.task; formulas = fs; room = room }

  pub taken-IsState : (room : ℕ) → IsState job → IsState (behind room)
  taken-IsState room state =
      record {
        task = state.task;
        ions = All-tail (HasIon job.task) f fs (subst (All (HasIon job.task)) first state.ions);
      }

  pub taken-HasIon : IsState job → HasIon job.task f
  taken-HasIon state = All-head (HasIon job.task) f fs (subst (All (HasIon job.task)) first state.ions)

  list-before : list_left before ≡ ranked_among job.task job.room (f ∷ fs)
  list-before = ap list_left (sym is) ∙ ap (ranked_among job.task job.room) first

  stop-before : stop_left before ≡ stop_among job.task job.room (f ∷ fs)
  stop-before = ap stop_left (sym is) ∙ ap (stop_among job.task job.room) first

  pub gives-list : (rating : Rating) → RatedWithin job.task job.room f (Ok rating) →
      list_left before ≡ with_rating f rating ∷ list_left (behind (job.room - 1))
  gives-list rating rated =
      list-before ∙ (gives-first job.task f fs job.room rated.0 rated.1).0
      ∙ ap (λ (e : RankedEntry). e ∷ list_left (behind (job.room - 1))) (sym rated.2)

  pub gives-stop : (rating : Rating) → RatedWithin job.task job.room f (Ok rating) →
      stop_left (behind (job.room - 1)) ≡ stop_left before
  gives-stop rating rated = (gives-first job.task f fs job.room rated.0 rated.1).1 ∙ sym stop-before

  pub stops-here : (fault : RankFault) → StopsAt job.task job.room f fault →
      MatchBool (is_memory fault) ⊤ ((list_left before ≡ []) × (stop_left before ≡ Some fault))
  stops-here Memory stops = tt
  stops-here (TooMany peak) stops =
      let ends = stops-many job.task f fs job.room stops.0 in
      (list-before ∙ ends.0, stop-before ∙ ends.1 ∙ ap (λ (n : ℕ). Some (TooMany n)) (sym stops.1))
  stops-here (Layer peak ion) stops =
      let ends = stops-over job.task f fs job.room stops.0 stops.1 in (
        list-before ∙ ends.0,
        stop-before ∙ ends.1
            ∙ sym (ap (λ (n : ℕ). Some (Layer n ion)) stops.2
            ∙ ap (λ (i : List (Item × ℕ)). Some (Layer (number_of job.task) i)) stops.3),
      )

  -- the candidate that was put back is the first again
  pub put_back-list : (formulas : List (List (Item × ℕ))) → formulas ≡ f ∷ fs →
      (let again : RankState = record { task = job.task; formulas = formulas; room = job.room } in list_left again)
      ≡ list_left before
  put_back-list formulas again = ap (ranked_among job.task job.room) again ∙ sym list-before
