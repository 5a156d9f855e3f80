use Rattle.std.proofs.Common.{◌≡◌, sym, ap, subst, ◌∙◌}
use Rattle.std.specs.Prelude.{Ok}
use Rattle.formula_text.specs.Formulas.{parts_of, sum_of}
use Rattle.candidates.specs.HillOrders.{numbered, others_of}
use Rattle.candidates.proofs.NumberedItems.{numbered-sum, others-sum}
use Rattle.candidates.proofs.hill.HillOrder.of.Goals as goal
use Rattle.candidates.proofs.hill.HillOrder.of.Goals.{After-deref-2, After-deref-3}

pub sum_of-requires : goal.sum_of-requires
sum_of-requires c =
    let items = c.args.items.now in
    let same : numbered items ≡ c.deref-2.result.now = sym (c.deref-2.ensures.value ∙ c.in_ok-numbered.ensures) in
    subst (λ l. parts_of l ≡ Ok (sum_of l)) same (numbered-sum items c.requires.different c.requires.few)

pub sum_of-requires-2 : goal.sum_of-requires-2
sum_of-requires-2 c =
    let items = c.args.items.now in
    let same : others_of (numbered items) ≡ c.deref-3.result.now =
    sym (c.deref-3.ensures.value ∙ c.in_ok-others.ensures ∙ ap others_of (c.deref.ensures.value ∙ c.in_ok-numbered.ensures)) in
    subst (λ l. parts_of l ≡ Ok (sum_of l)) same (others-sum items c.requires.different c.requires.few)

pub returns : goal.returns
returns c =
    record {
      with_carbon = c.in_ok-sum_of.ensures ∙ ap sum_of (c.deref-2.ensures.value ∙ c.in_ok-numbered.ensures);
      without =
          c.in_ok-sum_of-2.ensures
          ∙ ap sum_of (c.deref-3.ensures.value ∙ c.in_ok-others.ensures
          ∙ ap others_of (c.deref.ensures.value ∙ c.in_ok-numbered.ensures));
    }
