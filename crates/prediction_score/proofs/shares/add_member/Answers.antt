use Rattle.std.proofs.Common.{◌≡◌, ◌≢◌, ◌+◌, ◌<◌, List, length, get_or, arith, sym, subst, ap, refl, ◌∙◌}
use Rattle.std.proofs.lemmas.List.{get_or_default}
use Rattle.prediction_score.specs.declared.shares.Total.{Total}
use Rattle.prediction_score.specs.PeakOrders.{IsSplit}
use Rattle.prediction_score.proofs.MemberTotals.{AreShares-found, AreShares-new}
use Rattle.prediction_score.proofs.shares.add_member.Goals as goal
use Rattle.prediction_score.proofs.shares.add_member.Goals.{then-index-len+then-index-place}
use Rattle.prediction_score.proofs.shares.add_member.Goals.{else-index-len+in_ok-insert-in-Some}
use Rattle.prediction_score.proofs.shares.add_member.Goals.{else-index-len-via-then-index-len+else-index-place}
use Rattle.prediction_score.proofs.shares.add_member.Goals.{else-index-len-via-else-index-len}

pub returns-after-index-len : goal.returns-after-index-len
returns-after-index-len c =
    let totals : List Total = c.args.shares.now.totals.items in
    let index = c.lower_totals-index.result in
    let split : IsSplit (λ (t : Total). t.place) totals c.in-Some.place index =
    subst (λ (l : List Total). IsSplit (λ (t : Total). t.place) l c.in-Some.place index) c.deref.ensures.value
    c.lower_totals-index.ensures in
    λ n ms are inside. rw c.in-Some.is
    (elim c.if-index-len.branch [
      | then-index-len+then-index-place w ↦
          let below : index < length totals = omega (arith, w.if-index-len.true, c.len.ensures) in
          let here : (d : Total) → (get_or totals index d).place ≡ c.in-Some.place =
          λ d. ap (λ (t : Total). t.place) (get_or_default totals index d w.index.result.now below
          ∙ sym w.index.ensures) ∙ w.if-index-place.true in
          let old : Total = w.index_mut.result.now in
          let same : (d : Total) → old ≡ get_or totals index d =
          λ d. w.index_mut.ensures.value ∙ get_or_default totals index old d below in
          rw w.shares-is (AreShares-found n ms c.args.shares.now _ index c.in-Some.place c.args.lo
          (record { place = old.place; lo = old.lo + c.args.lo }) are below here refl refl refl
          (ap (λ (t : Total). t.place) (same old) ∙ here old)
          (λ d. ap (λ (t : Total). t.lo + c.args.lo) (same d)))
      | else-index-len+in_ok-insert-in-Some w ↦
          let fresh : (d : Total) → index < length totals → (get_or totals index d).place ≢ c.in-Some.place =
          elim w.else-index-len.branch [
            | else-index-len-via-then-index-len+else-index-place v ↦
                λ d below same. v.if-index-place.false (ap (λ (t : Total). t.place) (v.index.ensures
                ∙ get_or_default totals index v.index.result.now d below) ∙ same)
            | else-index-len-via-else-index-len v ↦
                λ d below same. omega (arith, v.if-index-len.false, c.len.ensures)
          ] in
          rw w.shares-is (AreShares-new n ms c.args.shares.now _ index c.in-Some.place c.args.lo
          (record { place = c.in-Some.place; lo = c.args.lo }) are
          (rw c.in-Some.is at inside) split fresh refl refl w.in_ok-insert-in-Some.ensures.items refl refl)
    ])
