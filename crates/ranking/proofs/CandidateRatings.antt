-- A candidate is ranked by the prediction of its ion, or it is over the limit.
use Rattle.std.proofs.Common.{◌≡◌, ℕ, ℤ, Bool, true, false, cond, List, [], refl, ap, sym, subst, ◌∙◌}
use Rattle.std.specs.Prelude.{Some, Result, Ok, Err, unwrap_or}
use Rattle.reader_answers.specs.Answers.{◌>>=◌}
use Rattle.isotopologue_sets.specs.Layers.{has_too_many, last_threshold_for}
use Rattle.reaching_layer.specs.declared.fault.CoverFault.{CoverFault}
use Rattle.reaching_layer.specs.declared.fault.CoverFault.TheVariants.{TooMany}
use Rattle.element_table.specs.Elements.{TableEntries}
use Rattle.written_items.specs.declared.item.Item.{Item}
use Rattle.isotopologue_text.specs.Isotopologues.{formula_elements}
use Rattle.cover_certificate.specs.FormulaCovers.{CoverEntries, cover_of}
use Rattle.adducts.specs.Adducts.{AdductValue}
use Rattle.adducts.specs.Ions.{ion_of}
use Rattle.ranking.specs.declared.task.Rating.{Rating}
use Rattle.ranking.specs.Predictions.{PredictionEntries, prediction_of, prediction_unless_too_many}
use Rattle.ranking.specs.Rankings.{RankTask, ion_in, is_over_limit, ranked, ranked_by}
use Rattle.ranking.specs.Ratings.{IsRatingOf, with_rating}

-- either a prediction or the fault, by the test
predicted : (many : Bool) (t : ℕ) (cover : CoverEntries) (made : CoverEntries → PredictionEntries) (p : PredictionEntries) →
    (let answer : Result CoverEntries CoverFault = cond many (Err (TooMany t)) (Ok cover) in
    let r : Result PredictionEntries CoverFault = answer >>= λ c. Ok (made c) in r) ≡ Ok p →
    (many ≡ false) × (p ≡ made cover)
predicted true t cover made p e =
    absurd (let both : ◌≡◌ {A = Result PredictionEntries CoverFault} (Err (TooMany t)) (Ok p) = e in cc)
predicted false t cover made p e =
    (refl, let both : ◌≡◌ {A = Result PredictionEntries CoverFault} (Ok (made cover)) (Ok p) = e in cc)

refused : (many : Bool) (t told : ℕ) (cover : CoverEntries) (made : CoverEntries → PredictionEntries) →
    (let answer : Result CoverEntries CoverFault = cond many (Err (TooMany t)) (Ok cover) in
    let r : Result PredictionEntries CoverFault = answer >>= λ c. Ok (made c) in r) ≡ Err (TooMany told) → many ≡ true
refused true t told cover made e = refl
refused false t told cover made e =
    absurd (let both : ◌≡◌ {A = Result PredictionEntries CoverFault} (Ok (made cover)) (Err (TooMany told)) = e in cc)

-- whether an ion has too large a layer
abbrev many_of : RankTask → List (Item × ℕ) → Bool
many_of task ion =
    let elements = formula_elements task.premises.table ion in
    has_too_many elements (last_threshold_for elements task.coverage)

module _ (task : RankTask) (formula ion : List (Item × ℕ)) (adduct : AdductValue) (table : TableEntries) (charge : ℤ) where
  ion-in : adduct ≡ task.premises.adduct → Some ion ≡ ion_of adduct formula → ion ≡ ion_in task formula
  ion-in same is = ap (λ o. unwrap_or o []) (is ∙ ap (λ a. ion_of a formula) same)

  -- the prediction is asked of the ion in the terms of the task
  in_task : adduct ≡ task.premises.adduct → table ≡ task.premises.table → charge ≡ adduct.charge →
      (answer : Result PredictionEntries CoverFault) → prediction_unless_too_many table ion charge task.coverage ≡ answer →
      prediction_unless_too_many task.premises.table ion task.premises.adduct.charge task.coverage ≡ answer
  in_task same known charged answer e =
      ap (λ t. prediction_unless_too_many t ion task.premises.adduct.charge task.coverage) (sym known)
      ∙ ap (λ z. prediction_unless_too_many table ion z task.coverage) (sym (charged ∙ ap (λ (a : AdductValue). a.charge) same))
      ∙ e

  pub rated-over : (told : ℕ) → adduct ≡ task.premises.adduct → table ≡ task.premises.table → charge ≡ adduct.charge →
      Some ion ≡ ion_of adduct formula → prediction_unless_too_many table ion charge task.coverage ≡ Err (TooMany told) →
      (is_over_limit task formula ≡ true) × (ion ≡ ion_in task formula)
  unfolding prediction_unless_too_many
  rated-over told same known charged is e =
      let own : ion ≡ ion_in task formula = ion-in same is in
      let elements = formula_elements task.premises.table ion in
      let over : many_of task ion ≡ true =
      refused (has_too_many elements (last_threshold_for elements task.coverage))
      (last_threshold_for elements task.coverage) told (cover_of task.premises.table ion task.coverage)
      (prediction_of task.premises.table task.premises.adduct.charge)
      (in_task same known charged (Err (TooMany told)) e) in
      (subst (λ f. many_of task f ≡ true) own over, own)

  pub rated-ranked : (prediction : PredictionEntries) (rating : Rating) → adduct ≡ task.premises.adduct →
      table ≡ task.premises.table → charge ≡ adduct.charge → Some ion ≡ ion_of adduct formula →
      prediction_unless_too_many table ion charge task.coverage ≡ Ok prediction → IsRatingOf task prediction rating →
      (is_over_limit task formula ≡ false) × (with_rating formula rating ≡ ranked task formula)
  unfolding prediction_unless_too_many ranked
  rated-ranked prediction rating same known charged is e rated =
      let own : ion ≡ ion_in task formula = ion-in same is in
      let elements = formula_elements task.premises.table ion in
      let made : CoverEntries → PredictionEntries =
      prediction_of task.premises.table task.premises.adduct.charge in
      let parts = predicted (has_too_many elements (last_threshold_for elements task.coverage))
      (last_threshold_for elements task.coverage) (cover_of task.premises.table ion task.coverage) made prediction
      (in_task same known charged (Ok prediction) e) in
      let by_prediction : with_rating formula rating ≡ ranked_by task formula prediction =
      rw (rated.0, rated.1, rated.2) refl in (
        subst (λ f. many_of task f ≡ false) own parts.0,
        by_prediction ∙ ap (ranked_by task formula) parts.1
            ∙ ap (λ f. ranked_by task formula (made (cover_of task.premises.table f task.coverage))) own,
      )
