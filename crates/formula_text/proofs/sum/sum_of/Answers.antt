use Rattle.std.proofs.Common.{◌≡◌, ℕ, ◌+◌, ◌≤◌, get_or, take, sym, ap, subst, ◌∙◌, arith}
use Rattle.std.proofs.lemmas.List.Sums.{sum_by_more_le}
use Rattle.written_items.specs.declared.item.Item.{Item}
use Rattle.formula_text.specs.Formulas.{IsItem, atoms_of, with_part}
use Rattle.formula_text.proofs.SumFolds.{sum_so_far, sum_so_far-sorted, sum_so_far-atoms, sum_so_far-more}
use Rattle.formula_text.proofs.SumFolds.{sum_so_far-none, item-with_part}
use Rattle.formula_text.proofs.sum.sum_of.Goals as goal
use Rattle.formula_text.proofs.sum.sum_of.Goals.{then-count-gt0+in_ok-add_part, else-count-gt0}

pub add_part-requires-clause-sorted : goal.add_part-requires-clause-sorted
add_part-requires-clause-sorted c =
    rw c.loop-item.invariant.1 (sum_so_far-sorted c.has_carbon-carbon.result
    (take c.loop-item.item-index c.args.parts.now))

pub add_part-requires-clause-room : goal.add_part-requires-clause-room
add_part-requires-clause-room c =
    let parts = c.args.parts.now in
    let i = c.loop-item.item-index in
    let p = c.loop-item-item.result in
    let so_far : atoms_of c.loop-item.items.items ≡ atoms_of (take i parts) =
    ap atoms_of c.loop-item.invariant.1 ∙ sum_so_far-atoms c.has_carbon-carbon.result (take i parts) in
    let more = sum_by_more_le (λ (p : Item × ℕ). p.1) parts i p c.loop-item-test.true in
    let own : p.1 ≡ (get_or parts i p).1 = ap (λ (p : Item × ℕ). p.1) c.loop-item-item.is in
    let room : atoms_of c.loop-item.items.items + p.1 ≤ 20000 = omega (arith, c.requires) in
    omega (arith, room)

pub loop-item-preserved : goal.loop-item-preserved
loop-item-preserved c =
    let parts = c.args.parts.now in
    let carbon = c.has_carbon-carbon.result in
    let i = c.loop-item.item-index in
    let p = c.loop-item-item.result in
    let old = c.loop-item.items.items in
    elim c.if-count-gt0.branch [
      | then-count-gt0+in_ok-add_part w ↦
          let new : c.if-count-gt0.items.items ≡ with_part carbon old p =
          ap (λ v. v.items) w.items-is ∙ w.in_ok-add_part.ensures.sum in
          let some = subst (λ (q : Item × ℕ). 1 ≤ q.1) c.loop-item-item.is w.if-count-gt0.true in (
            c.loop-item.invariant.0,
            new ∙ ap (λ l. with_part carbon l p) c.loop-item.invariant.1
                ∙ ap (with_part carbon (sum_so_far carbon (take i parts))) c.loop-item-item.is
                ∙ sym (sum_so_far-more carbon parts i p c.loop-item-test.true some),
            rw new (item-with_part IsItem carbon old p c.loop-item.invariant.2 w.in_ok-add_part.ensures.item),
          )
      | else-count-gt0 w ↦
          let same : c.if-count-gt0.items.items ≡ old = ap (λ v. v.items) w.items-is in
          let none : p.1 ≡ 0 = omega (arith, w.if-count-gt0.false) in (
            c.loop-item.invariant.0,
            same ∙ c.loop-item.invariant.1
                ∙ sym (sum_so_far-none carbon parts i p c.loop-item-test.true
                (sym (ap (λ (q : Item × ℕ). q.1) c.loop-item-item.is) ∙ none)),
            rw same c.loop-item.invariant.2,
          )
    ]
