use Rattle.std.proofs.Common.{◌≡◌, ℕ, ◌+◌, ◌<◌, List, [], ◌∷◌, ◌++◌, length, get_or, map, take, arith, sym, subst, ap, ◌∙◌}
use Rattle.std.specs.Prelude.{ℤ, pos, Option, unsigned_abs}
use Rattle.std.proofs.lemmas.List.{get_or-map, length-map}
use Rattle.std.proofs.lemmas.List.Sums.{sum_by_more_le}
use Rattle.prediction_score.specs.declared.predicted.Predicted.{Predicted}
use Rattle.prediction_score.specs.Columns.{AreKnown}
use Rattle.prediction_score.specs.Matches.{Outcome}
use Rattle.prediction_score.specs.PeakOrders.{HoldsPeaks}
use Rattle.prediction_score.specs.Scores.{Match, matches_of}
use Rattle.prediction_score.specs.PeakOrders.{AreShares}
use Rattle.prediction_score.proofs.NearestPeaks.{Outcome-meaning, peak_of-outcome}
use Rattle.prediction_score.proofs.ReachedPeaks.{asked-known}
use Rattle.prediction_score.proofs.ScoreSums.{sum-matches, matches_of-more, inside-peaks}
use Rattle.prediction_score.proofs.shares.shares_of.Goals as goal
use Rattle.prediction_score.proofs.shares.shares_of.Goals.{After-mass_of-mass}

abbrev no_member : Predicted
no_member = record { mass = pos 0; lo = 0 }

abbrev member : After-mass_of-mass → Predicted
member c = get_or c.args.members.now c.loop-member.member-index no_member

pub place_of-place-requires-clause-known : goal.place_of-place-requires-clause-known
place_of-place-requires-clause-known c =
    let i : ℕ = c.loop-member.member-index in
    let members : List Predicted = c.args.members.now in
    let column : List ℕ = map (λ (m : Predicted). unsigned_abs m.mass) members in
    let inside : i < length column =
    omega (arith, c.loop-member-test.true, length-map members (λ (m : Predicted). unsigned_abs m.mass)) in
    let same : get_or column i 0 ≡ c.mass_of-mass.result =
    get_or-map (λ (m : Predicted). unsigned_abs m.mass) members i no_member 0 c.loop-member-test.true
    ∙ sym c.mass_of-mass.ensures.mass in
    subst (λ m. AreKnown c.as_slice-entries.result.now m c.args.divisor c.args.tolerance c.in_ok-asked.asked) same
    (asked-known column c.args.divisor c.args.tolerance c.as_slice-entries.result.now c.in_ok-asked.asked i
    c.in_ok-asked.ensures inside (omega (arith, same, c.mass_of-mass.ensures.some)))

pub add_member-requires-clause-room : goal.add_member-requires-clause-room
add_member-requires-clause-room c =
    let members = c.args.members.now in
    let i = c.loop-member.member-index in
    omega (
      arith,
      c.loop-member.invariant.all,
      sum-matches c.args.order.now c.args.divisor c.args.tolerance (take i members),
      sum_by_more_le (λ (m : Predicted). m.lo) members i no_member c.loop-member-test.true,
      c.requires.members.lo_total,
    )

pub loop-member-preserved : goal.loop-member-preserved
loop-member-preserved c =
    let at = (goal.at.loop-member-preserved c).After-mass_of-mass in
    let members = c.args.members.now in
    let i = c.loop-member.member-index in
    let outcome : Outcome c.args.order.now c.args.divisor c.args.tolerance (member at).mass c.place_of-place.result =
    subst (λ (m : ℤ). Outcome c.args.order.now c.args.divisor c.args.tolerance m c.place_of-place.result)
    c.mass_of-mass.ensures.is
    (subst (λ (p : List (ℕ × ℕ)). Outcome p c.args.divisor c.args.tolerance (pos c.mass_of-mass.result)
    c.place_of-place.result) c.order.view_is
    (c.place_of-place.ensures c.order.inside.peaks.now
    (subst (HoldsPeaks c.order.inside.peaks.now) (sym c.as_slice-entries.ensures.value) c.order.invariant))) in
    let more : matches_of c.args.order.now c.args.divisor c.args.tolerance (take (i + 1) members)
    ≡ matches_of c.args.order.now c.args.divisor c.args.tolerance (take i members)
    ++ (c.place_of-place.result, (member at).lo) ∷ [] =
    matches_of-more c.args.order.now c.args.divisor c.args.tolerance members i no_member c.loop-member-test.true
    ∙ ap (λ (o : Option ℕ). matches_of c.args.order.now c.args.divisor c.args.tolerance (take i members)
    ++ (o, (member at).lo) ∷ []) (sym (peak_of-outcome _ _ _ _ _ outcome)) in
    subst (λ (ms : List Match). AreShares (length c.args.order.now) ms c.add_member.new.shares) (sym more)
    (c.in_ok-add_member.ensures _ _ c.loop-member.invariant
    (inside-peaks _ _ _ (member at).mass c.place_of-place.result (Outcome-meaning _ _ _ _ _ outcome)))
