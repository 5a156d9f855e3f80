use Rattle.std.proofs.Common.{◌≡◌, ℕ, ◌+◌, set, sym, ap, ◌∙◌, arith}
use Rattle.std.proofs.lemmas.List.{get_or_read}
use Rattle.std.proofs.lemmas.List.Sums.{prefix_len-le-length}
use Rattle.std.specs.Ordering.{is_gt}
use Rattle.written_items.specs.declared.item.Item.{Item}
use Rattle.formula_text.specs.HillOrder.{hill_cmp}
use Rattle.formula_text.proofs.HillOrderLaws.{item_eq-same, item_eq-other}
use Rattle.formula_text.proofs.Places.{place_of, FoundAt, AbsentAt, with_part-found, with_part-absent}
use Rattle.formula_text.proofs.sum.add_part.Goals as goal
use Rattle.formula_text.proofs.sum.add_part.Goals.{else-place-len-via-then-place-len+else-eq}
use Rattle.formula_text.proofs.sum.add_part.Goals.{else-place-len-via-else-place-len}

pub insert-requires : goal.insert-requires
insert-requires c =
    let items = c.args.items.now in
    let is : c.place_of-place.result ≡ place_of c.args.carbon c.args.item items.items =
    c.place_of-place.ensures.place ∙ ap (place_of c.args.carbon c.args.item) c.deref.ensures.value in
    omega (
      arith,
      prefix_len-le-length
          (λ (p : Item × ℕ). is_gt (hill_cmp c.args.carbon c.args.item p.0)) items.items,
      items.ok.0,
    )

pub returns-then-eq-clause-sum : goal.returns-then-eq-clause-sum
returns-then-eq-clause-sum c =
    let items = c.args.items.now in
    let n = c.place_of-place.result in
    let is : n ≡ place_of c.args.carbon c.args.item items.items =
    c.place_of-place.ensures.place ∙ ap (place_of c.args.carbon c.args.item) c.deref.ensures.value in
    let x = c.index.result.now in
    let y = c.index_mut.result.now in
    let there = get_or_read items.items n x (omega (arith, items.ok.0)) c.index.ensures in
    let same : x.0 ≡ c.args.item = item_eq-same x.0 c.args.item (sym c.if-eq.ensures) in
    let at : FoundAt c.args.item items.items n =
    (omega (arith, items.ok.0), λ d. ap (λ p. p.0) (sym (there d)) ∙ same) in
    let value = c.index_mut.ensures.value in
    ap (λ k. set items.items n (k, y.1 + c.args.count)) (ap (λ p. p.0) value ∙ at.1 y)
    ∙ ap (λ p. set items.items n (c.args.item, p.1 + c.args.count)) value
    ∙ sym (with_part-found c.args.carbon items.items (c.args.item, c.args.count) y c.requires.sorted n is at)

pub returns-in_ok-insert-clause-sum : goal.returns-in_ok-insert-clause-sum
returns-in_ok-insert-clause-sum c =
    let items = c.args.items.now in
    let n = c.place_of-place.result in
    let is : n ≡ place_of c.args.carbon c.args.item items.items =
    c.place_of-place.ensures.place ∙ ap (place_of c.args.carbon c.args.item) c.deref.ensures.value in
    let at : AbsentAt c.args.item items.items n = elim c.else-place-len.branch [
      | else-place-len-via-then-place-len+else-eq w ↦ λ h d same.
          let x = w.index.result.now in
          item_eq-other x.0 c.args.item (sym w.if-eq.ensures)
          (ap (λ p. p.0) (get_or_read items.items n x h w.index.ensures d) ∙ same)
      | else-place-len-via-else-place-len w ↦ λ h d same. absurd (omega (arith, items.ok.0))
    ] in
    c.in_ok-insert.ensures.items
    ∙ sym (with_part-absent c.args.carbon items.items (c.args.item, c.args.count) c.requires.sorted n is at)
