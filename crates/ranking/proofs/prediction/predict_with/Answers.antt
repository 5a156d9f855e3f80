use Rattle.std.proofs.Common.{SFits, ◌≡◌, List, take, Result, Ok, Err, ◌∙◌, sym, subst, All, rules}
use Rattle.std.specs.Prelude.{map}
use Rattle.std.specs.Int.{w32}
use Rattle.std.proofs.lemmas.Int.{to_z-of_z}
use Rattle.reader_answers.specs.Answers.{Gives}
use Rattle.multinomial_bounds.specs.Isotopologue.{Element, IsIsotopologue}
use Rattle.isotopologue_sets.specs.Layers.{AreElements}
use Rattle.isotopologue_sets.specs.Covers.{CoverNumbers}
use Rattle.reaching_layer.specs.declared.fault.CoverFault.{CoverFault}
use Rattle.reaching_layer.specs.LayerAnswers.{is_memory, numbers_unless_too_many}
use Rattle.isotopologue_text.specs.Isotopologues.{formula_elements}
use Rattle.ranking.specs.Predictions.{PredictionEntries, predicted_member, prediction_unless_too_many}
use Rattle.ranking.proofs.CoverPredictions.{prediction_answer, prediction_fault, members-ArePredicted}
use Rattle.ranking.proofs.prediction.predict_with.Goals as goal
use Rattle.ranking.proofs.prediction.predict_with.Goals.{In_ok-layer}

pub reaching_layer_with-requires-clause-elements : goal.reaching_layer_with-requires-clause-elements
reaching_layer_with-requires-clause-elements c = rw c.deref.ensures.value c.in_ok-elements.ensures.within_limits

elements : (c : In_ok-layer) → c.deref.result.now ≡ formula_elements c.args.table.now c.args.ion.now
elements c = c.deref.ensures.value ∙ c.in_ok-elements.ensures.elements

isotopologues : (c : In_ok-layer) →
    All (λ m. IsIsotopologue (formula_elements c.args.table.now c.args.ion.now) m.counts) c.in_ok-layer.layer.members
isotopologues c =
    let P : List Element → Type 0 = λ es. All (λ m. IsIsotopologue es m.counts) c.in_ok-layer.layer.members in
    subst P (elements c) c.in_ok-layer.ensures.isotopologues

answer : (c : In_ok-layer) → numbers_unless_too_many (formula_elements c.args.table.now c.args.ion.now) c.args.coverage
    ≡ Ok c.in_ok-layer.layer
answer c =
    let P : List Element → Type 0 = λ es. numbers_unless_too_many es c.args.coverage ≡ Ok c.in_ok-layer.layer in
    subst P (elements c) c.in_ok-layer.ensures.cover

pub members_of-requires-clause-isotopologues : goal.members_of-requires-clause-isotopologues
members_of-requires-clause-isotopologues c = isotopologues (goal.at.members_of-requires-clause-isotopologues c).In_ok-layer

pub invariant_of-result : goal.invariant_of-result
invariant_of-result c =
    let fits : SFits w32 c.args.charge = c.ranges.charge in
    let es : List Element = formula_elements c.args.table.now c.args.ion.now in
    let are : AreElements es = subst AreElements c.in_ok-elements.ensures.elements c.in_ok-elements.ensures.within_limits in
    members-ArePredicted c.args.table.now c.args.ion.now c.args.charge c.args.coverage c.in_ok-layer.layer
    c.in_ok-members_of.field-0.items are (answer (goal.at.invariant_of-result c).In_ok-layer)
    (simp to_z-of_z at c.in_ok-members_of.ensures.members) c.in_ok-members_of.ensures.masses

pub returns-clause-prediction : goal.returns-clause-prediction
returns-clause-prediction c =
    let at = (goal.at.returns-clause-prediction c).In_ok-layer in
    let fits : SFits w32 c.args.charge = c.ranges.charge in
    let members : c.in_ok-members_of.field-0.items
    ≡ map (predicted_member c.args.table.now c.args.ion.now c.args.charge)
    (take c.in_ok-layer.layer.size c.in_ok-layer.layer.members) =
    simp to_z-of_z at c.in_ok-members_of.ensures.members in
    rw (c.size.ensures.size, c.bound.ensures, members)
    (prediction_answer c.args.table.now c.args.ion.now c.args.charge c.args.coverage c.in_ok-layer.layer (answer at))

pub returns-in_err-layer-clause-prediction : goal.returns-in_err-layer-clause-prediction
returns-in_err-layer-clause-prediction c =
    let fault = c.in_err-layer.field-0.0 in
    let P : List Element → Type 0 = λ es.
    Gives {A = CoverNumbers} is_memory (Err fault) (numbers_unless_too_many es c.args.coverage) in
    let given : P (formula_elements c.args.table.now c.args.ion.now) =
    subst P (c.deref.ensures.value ∙ c.in_ok-elements.ensures.elements) c.in_err-layer.ensures.cover in
    let Q : Result PredictionEntries CoverFault → Type 0 = λ r.
    Gives is_memory r (prediction_unless_too_many c.args.table.now c.args.ion.now c.args.charge c.args.coverage) in
    let is : c.from_residual-in_err-layer.result ≡ Err fault = search rules in
    subst Q (sym is) (prediction_fault c.args.table.now c.args.ion.now c.args.charge c.args.coverage fault given)

pub returns-clause-predicted : goal.returns-clause-predicted
returns-clause-predicted c =
    let fits : SFits w32 c.args.charge = c.ranges.charge in
    let es : List Element = formula_elements c.args.table.now c.args.ion.now in
    let are : AreElements es = subst AreElements c.in_ok-elements.ensures.elements c.in_ok-elements.ensures.within_limits in
    members-ArePredicted c.args.table.now c.args.ion.now c.args.charge c.args.coverage c.in_ok-layer.layer
    c.in_ok-members_of.field-0.items are (answer (goal.at.returns-clause-predicted c).In_ok-layer)
    (simp to_z-of_z at c.in_ok-members_of.ensures.members) c.in_ok-members_of.ensures.masses
