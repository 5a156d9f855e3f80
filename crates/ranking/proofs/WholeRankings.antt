-- The answer of a job that is run to its end, over what it has given.
use Rattle.std.proofs.Common.{◌≡◌, List, [], ◌++◌, sym, ap, ◌∙◌}
use Rattle.std.specs.Prelude.{Option, Some, None, Ok, Err, MatchBool, ⊤}
use Rattle.std.proofs.lemmas.List.{append-nil}
use Rattle.reader_answers.specs.Answers.{GivesAs}
use Rattle.ranking.specs.declared.fault.RankFault.{RankFault}
use Rattle.ranking.specs.declared.fault.RankFault.TheVariants.{TooMany, Layer, Memory}
use Rattle.ranking.specs.Places.{RankedEntry, by_score}
use Rattle.ranking.specs.Rankings.{is_memory, unless_stopped}

-- it has given the whole list, and there is no stop
pub whole_given : (stop : Option RankFault) (list found left sorted : List RankedEntry) → found ++ left ≡ list →
    left ≡ [] → stop ≡ None → sorted ≡ by_score found → unless_stopped stop list ≡ Ok sorted
whole_given stop list found left sorted all none no_stop is =
    let whole : list ≡ found = sym all ∙ ap (λ (l : List RankedEntry). found ++ l) none ∙ append-nil found in
    ap (λ s. unless_stopped s list) no_stop ∙ ap (λ l. Ok (by_score l)) whole ∙ ap Ok (sym is)

-- it has met its stop, or memory was wanting
pub stop_met : {A : Type 0} (view : A → List RankedEntry) (stop given_stop : Option RankFault) (list left : List RankedEntry)
    (fault : RankFault) → given_stop ≡ stop → MatchBool (is_memory fault) ⊤ ((left ≡ []) × (given_stop ≡ Some fault)) →
    GivesAs view is_memory (Err fault) (unless_stopped stop list)
stop_met view stop given_stop list left Memory same met = tt
stop_met view stop given_stop list left (TooMany peak) same met =
    ap (λ s. unless_stopped s list) (sym same ∙ met.1)
stop_met view stop given_stop list left (Layer peak ion) same met =
    ap (λ s. unless_stopped s list) (sym same ∙ met.1)
