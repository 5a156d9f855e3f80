use Rattle.std.proofs.Common.{◌∷◌, [], length, take, sym, ap, ◌∙◌, arith, false, length-append}
use Rattle.cover_claims.specs.Claims.{ClaimedMember, marked_in, isotopologues_in, member_at}
use Rattle.cover_claims.proofs.MemberTotals.{marked-yes, marked-no}
use Rattle.cover_claims.proofs.totals.marked_count.Goals as goal
use Rattle.cover_claims.proofs.totals.marked_count.Goals.{then-is_marked, else-is_marked}

pub loop-place-preserved : goal.loop-place-preserved
loop-place-preserved c =
    let ms = c.args.claimed.now.members in
    let k = c.loop-place.place in
    let d : ClaimedMember = record { marked = false; counts = [] } in
    let within = c.loop-place-test.true in
    let so_far = c.loop-place.invariant.0 in
    let few = c.loop-place.invariant.1 in
    elim c.if-is_marked.branch [
      | then-is_marked w ↦
          let more = ap length (marked-yes ms k (omega (arith, within, c.len-place-end.ensures)) d (sym (c.is_marked.ensures d) ∙ w.if-is_marked.true)) in
          let long = length-append (marked_in (take k ms)) (member_at (isotopologues_in ms) k ∷ []) in
          (omega (arith, w.count-is, more, long, so_far), omega (arith, w.count-is, few))
      | else-is_marked w ↦
          let same = ap length (marked-no ms k (omega (arith, within, c.len-place-end.ensures)) d (sym (c.is_marked.ensures d) ∙ w.if-is_marked.false)) in
          (omega (arith, w.count-is, same, so_far), omega (arith, w.count-is, few))
    ]
