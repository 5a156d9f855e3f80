use Rattle.std.proofs.Common.{sym}
use Rattle.cover_claims.proofs.ModeRow.{modes-more}
use Rattle.cover_claims.proofs.claim.mode_row.Goals as goal

pub loop-element-preserved : goal.loop-element-preserved
loop-element-preserved c =
    let e = c.element-item.result in
    rw (c.in_ok-extend_from_slice.ensures.items, c.mode.ensures, c.loop-element.invariant)
    (sym (modes-more c.args.elements.now c.loop-element.element-index e c.loop-element-test.true c.element-item.is))
