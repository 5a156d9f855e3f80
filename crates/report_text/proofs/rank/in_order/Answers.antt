use Rattle.std.proofs.Common.{◌≡◌, ◌<◌, ◌∙◌, ◌++◌, [], ◌∷◌, List, ℕ, length, map, sym, ap, subst, arith, rules}
use Rattle.std.specs.Prelude.{slice_index_or}
use Rattle.ranking.specs.Places.{RankedEntry, places_of}
use Rattle.report_text.proofs.Places.{ordered_all, ordered_more, place_in_order}
use Rattle.report_text.proofs.rank.in_order.Goals as goal

pub entry_at-requires : goal.entry_at-requires
entry_at-requires c =
    let i = c.loop-place.place-index in
    let none : RankedEntry = record { formula = []; score = 0; size = 0; bound = 0 } in
    let places : c.deref-place-items.result.now ≡ places_of c.args.found.now =
    c.deref-place-items.ensures.value ∙ c.in_ok-in_places.ensures in
    let at = place_in_order none c.args.found.now i 0 (omega (arith, ap length places, c.loop-place-test.true)) in
    subst (λ (ns : List ℕ). slice_index_or ns i 0 < length c.args.found.now) (sym places) at.0

pub loop-place-preserved : goal.loop-place-preserved
loop-place-preserved c =
    let places : c.deref-place-items.result.now ≡ places_of c.args.found.now =
    c.deref-place-items.ensures.value ∙ c.in_ok-in_places.ensures in
    let pushed : c.push.new.self.items ≡ c.loop-place.order.items ++ c.entry_at.result ∷ [] = search rules in
    ap (map (λ r. r.now)) pushed
    ∙ ordered_more (λ r. r.now) c.args.found.now c.deref-place-items.result.now c.loop-place.order.items
    c.entry_at.result c.loop-place.place-index 0 places c.loop-place-test.true c.entry_at.ensures c.loop-place.invariant

pub returns : goal.returns
returns c =
    let places : c.deref-place-items.result.now ≡ places_of c.args.found.now =
    c.deref-place-items.ensures.value ∙ c.in_ok-in_places.ensures in
    c.loop-place.invariant
    ∙ ordered_all c.args.found.now c.deref-place-items.result.now c.loop-place.place-index places c.loop-place-test.false
