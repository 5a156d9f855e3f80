-- The candidates that wait, as one is taken.
use Rattle.std.proofs.Common.{◌≡◌, ℕ, List, [], ◌∷◌, map, refl, ap, ◌∙◌}
use Rattle.std.specs.Prelude.{Option, Some, None, Result, Ok, Err, IfOk, IfSome, ◌↔◌}
use Rattle.written_items.specs.declared.item.Item.{Item}
use Rattle.candidates.specs.Enumeration.{CandidateEnumeration, counts_left, formulas_left}
use Rattle.candidates.specs.PeakFormulas.{formula_at}
use Rattle.ranking.specs.Ratings.{TakesFirst}

-- what an enumeration says of its next formula is that it takes the first that is left
pub first_taken : {E : Type 0} (old new : CandidateEnumeration) (result : Result (Option (List (Item × ℕ))) E) →
    IfOk result (λ o. IfSome o (λ f. formulas_left old ≡ f ∷ formulas_left new)) →
    IfOk result (λ o. (o ≡ None) ↔ (counts_left old ≡ [])) → IfOk result (λ o. o ≡ None → new ≡ old) →
    IfOk result (λ o. TakesFirst (formulas_left old) o (formulas_left new))
first_taken old new (Ok (Some formula)) next end at_end = next
first_taken old new (Ok None) next end at_end =
    let none : formulas_left old ≡ [] = ap (map (formula_at old.premises.alphabet)) (end.0 refl) in
    (none, ap formulas_left (at_end refl) ∙ none)
first_taken old new (Err fault) next end at_end = tt
