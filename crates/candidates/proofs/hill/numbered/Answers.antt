use Rattle.std.proofs.Common.{◌≡◌, ◌+◌, [], ◌∷◌, ◌++◌, take, sym, ap, ◌∙◌, arith}
use Rattle.candidates.specs.HillOrders.{numbered}
use Rattle.candidates.proofs.NumberedItems.{one-numbered}
use Rattle.candidates.proofs.hill.numbered.Goals as goal

pub loop-place-preserved : goal.loop-place-preserved
loop-place-preserved c =
    let items = c.args.items.now in
    let place = c.loop-place.place in
    let item = c.index-items-place.result in
    let number : place + 1 ≡ 1 + place = omega arith in
    c.in_ok-push.ensures.items
    ∙ ap (λ l. l ++ (item, place + 1) ∷ []) c.loop-place.invariant
    ∙ ap (λ n. numbered (take place items) ++ (item, n) ∷ []) number
    ∙ sym (one-numbered 1 items place item c.loop-place-test.true c.index-items-place.is)
