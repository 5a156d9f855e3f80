use Rattle.std.proofs.Common.{[], take, sym, ap, ◌∙◌, arith, false}
use Rattle.isotopologue_sets.specs.Layers.{lo_total}
use Rattle.cover_claims.specs.Claims.{ClaimedMember, marked_in, isotopologues_in, member_at}
use Rattle.cover_claims.proofs.MemberTotals.{marked-yes, marked-no, lo_total-push}
use Rattle.cover_claims.proofs.totals.marked_total.Goals as goal
use Rattle.cover_claims.proofs.totals.marked_total.Goals.{then-is_marked, else-is_marked}

pub loop-place-preserved : goal.loop-place-preserved
loop-place-preserved c =
    let es = c.args.claimed.now.elements in
    let ms = c.args.claimed.now.members in
    let k = c.loop-place.place in
    let d : ClaimedMember = record { marked = false; counts = [] } in
    let within = c.loop-place-test.true in
    let so_far = c.loop-place.invariant.0 in
    let few = c.loop-place.invariant.1 in
    elim c.if-is_marked.branch [
      | then-is_marked w ↦
          let more = ap (lo_total es) (marked-yes ms k (omega (arith, within, c.len-place-end.ensures)) d (sym (c.is_marked.ensures d) ∙ w.if-is_marked.true)) in
          let one = lo_total-push es (marked_in (take k ms)) (member_at (isotopologues_in ms) k) in
          let small = w.enclosure.result.ordered in
          let most = w.enclosure.result.at_most_one in
          (omega (arith, w.total-is, more, one, so_far, w.enclosure.ensures.lo), omega (arith, w.total-is, few, small, most))
      | else-is_marked w ↦
          let same = ap (lo_total es) (marked-no ms k (omega (arith, within, c.len-place-end.ensures)) d (sym (c.is_marked.ensures d) ∙ w.if-is_marked.false)) in
          (omega (arith, w.total-is, same, so_far), omega (arith, w.total-is, few))
    ]
