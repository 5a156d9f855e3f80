use Rattle.std.proofs.Common.{◌≡◌, ap, ◌∙◌, take, subst, sym, arith, All}
use Rattle.std.proofs.lemmas.List.{take_all}
use Rattle.std.proofs.lemmas.List.Elements.{All-push}
use Rattle.multinomial_bounds.specs.Weight.{IsWeights}
use Rattle.multinomial_bounds.specs.Isotopologue.{Element}
use Rattle.isotopologue_sets.specs.Layers.{AreElements}
use Rattle.isotopologue_text.specs.Isotopologues.{formula_elements}
use Rattle.isotopologue_text.proofs.ElementLimits.{element_taken, element_passed, AreElements-formula_elements}
use Rattle.isotopologue_text.proofs.elements.elements_of.Goals as goal
use Rattle.isotopologue_text.proofs.elements.elements_of.Goals.{then-item-eq0+in_ok-element_of+in_ok-push, else-item-eq0}

pub loop-item-preserved : goal.loop-item-preserved
loop-item-preserved c =
    let part = c.loop-item-item.result in
    let i = c.loop-item.item-index in
    elim c.if-item-eq0.branch [
      | then-item-eq0+in_ok-element_of+in_ok-push w ↦
          rw (w.elements-is) (
            element_taken c.args.table.now c.items-items.result.now i part c.loop-item-test.true c.loop-item-item.is
                c.loop-item.elements.items w.push.new.self.items w.isotopes_of.result.now w.in_ok-element_of.field-0
                w.if-item-eq0.true c.loop-item.invariant.0 w.in_ok-push.ensures.items w.in_ok-element_of.ensures.value
                w.isotopes_of.ensures.that_occur,
            rw w.in_ok-push.ensures.items
                (All-push (λ (e : Element). IsWeights e.weights) c.loop-item.elements.items w.in_ok-element_of.field-0
                c.loop-item.invariant.1 w.in_ok-element_of.ensures.weights_in_range),
          )
      | else-item-eq0 w ↦
          rw (w.elements-is) (
            element_passed c.args.table.now c.items-items.result.now i part c.loop-item-test.true c.loop-item-item.is
                c.loop-item.elements.items w.if-item-eq0.false c.loop-item.invariant.0,
            c.loop-item.invariant.1,
          )
    ]

pub returns-clause-within_limits : goal.returns-clause-within_limits
returns-clause-within_limits c =
    let table = c.args.table.now in
    let items = c.items-items.result.now in
    let all : take c.loop-item.item-index items ≡ items = take_all c.loop-item.item-index items (omega arith) in
    let whole : c.loop-item.elements.items ≡ formula_elements table c.args.formula.now =
    c.loop-item.invariant.0 ∙ ap (formula_elements table) (all ∙ c.items-items.ensures.items) in
    let weights : All (λ (e : Element). IsWeights e.weights) (formula_elements table c.args.formula.now) =
    subst (All (λ (e : Element). IsWeights e.weights)) whole c.loop-item.invariant.1 in
    subst AreElements (sym whole)
    (AreElements-formula_elements table c.args.formula.now c.items-items.ensures.formula.parts weights)
