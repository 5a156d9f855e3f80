use Rattle.std.proofs.Common.{ℕ, length, sym, ap, subst, ◌∙◌, arith}
use Rattle.std.specs.Prelude.{All}
use Rattle.written_items.specs.declared.item.Item.{Item}
use Rattle.formula_text.specs.Formulas.{IsItem, IsParts}
use Rattle.candidates.specs.HillOrders.{with_counts}
use Rattle.candidates.proofs.HillCounts.{IsPlace, carbon-formula, other-formula, carbon-places, other-places, order-items, carbon-few, other-few}
use Rattle.candidates.proofs.hill.HillOrder.write.Goals as goal

pub write_counts-requires-clause-places : goal.write_counts-requires-clause-places
write_counts-requires-clause-places c =
    subst (All (IsPlace c.args.counts.now)) (sym (c.items.ensures.items ∙ c.requires.order.with_carbon))
    (carbon-places c.args.items.now c.args.counts.now c.requires.different c.requires.one_count_each
    (sym c.has_carbon.ensures ∙ c.if-has_carbon.true))

pub write_counts-requires-clause-room : goal.write_counts-requires-clause-room
write_counts-requires-clause-room c =
    let few = carbon-few c.args.items.now c.requires.different in
    omega (arith, few, ap length (c.items.ensures.items ∙ c.requires.order.with_carbon), c.requires.room)

pub write_counts-requires-else-has_carbon-clause-places : goal.write_counts-requires-else-has_carbon-clause-places
write_counts-requires-else-has_carbon-clause-places c =
    subst (All (IsPlace c.args.counts.now)) (sym (c.items-else-has_carbon.ensures.items ∙ c.requires.order.without))
    (other-places c.args.items.now c.args.counts.now c.requires.different c.requires.one_count_each)

pub write_counts-requires-else-has_carbon-clause-room : goal.write_counts-requires-else-has_carbon-clause-room
write_counts-requires-else-has_carbon-clause-room c =
    let few = other-few c.args.items.now c.requires.different in
    omega (arith, few, ap length (c.items-else-has_carbon.ensures.items ∙ c.requires.order.without), c.requires.room)

pub returns-then-has_carbon-clause-formula : goal.returns-then-has_carbon-clause-formula
returns-then-has_carbon-clause-formula c =
    c.write_counts.ensures.entries
    ∙ ap (with_counts c.args.counts.now) (c.items.ensures.items ∙ c.requires.order.with_carbon)
    ∙ carbon-formula c.args.items.now c.args.counts.now c.requires.different c.requires.one_count_each
    (sym c.has_carbon.ensures ∙ c.if-has_carbon.true)

pub returns-then-has_carbon-clause-items : goal.returns-then-has_carbon-clause-items
returns-then-has_carbon-clause-items c =
    subst (All (λ (p : Item × ℕ). IsItem p.0)) (sym c.write_counts.ensures.entries)
    (order-items c.args.counts.now c.items.result.now
    (subst IsParts (sym c.items.ensures.items) c.items.ensures.parts))

pub returns-then-has_carbon-clause-few : goal.returns-then-has_carbon-clause-few
returns-then-has_carbon-clause-few c =
    let few = carbon-few c.args.items.now c.requires.different in
    omega (arith, few, c.write_counts.ensures.few, ap length (c.items.ensures.items ∙ c.requires.order.with_carbon), c.requires.room)

pub returns-else-has_carbon-clause-formula : goal.returns-else-has_carbon-clause-formula
returns-else-has_carbon-clause-formula c =
    c.write_counts-else-has_carbon.ensures.entries
    ∙ ap (with_counts c.args.counts.now) (c.items-else-has_carbon.ensures.items ∙ c.requires.order.without)
    ∙ other-formula c.args.items.now c.args.counts.now c.requires.different c.requires.one_count_each
    (sym c.has_carbon.ensures ∙ c.if-has_carbon.false)

pub returns-else-has_carbon-clause-items : goal.returns-else-has_carbon-clause-items
returns-else-has_carbon-clause-items c =
    subst (All (λ (p : Item × ℕ). IsItem p.0)) (sym c.write_counts-else-has_carbon.ensures.entries)
    (order-items c.args.counts.now c.items-else-has_carbon.result.now
    (subst IsParts (sym c.items-else-has_carbon.ensures.items) c.items-else-has_carbon.ensures.parts))

pub returns-else-has_carbon-clause-few : goal.returns-else-has_carbon-clause-few
returns-else-has_carbon-clause-few c =
    let few = other-few c.args.items.now c.requires.different in
    omega (
      arith,
      few,
      c.write_counts-else-has_carbon.ensures.few,
      ap length (c.items-else-has_carbon.ensures.items ∙ c.requires.order.without),
      c.requires.room,
    )
