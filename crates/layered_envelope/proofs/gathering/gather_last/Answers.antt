use Rattle.std.proofs.Common.{◌≡◌, ◌+◌, ◌<◌, ◌∷◌, [], length, refl, sym, ◌∙◌, ap, arith}
use Rattle.std.proofs.lemmas.List.{length-map}
use Rattle.sub_isotopologues.specs.Listings.{Listing, items_of}
use Rattle.layered_envelope.specs.ChosenPlaces.{firsts}
use Rattle.layered_envelope.specs.Walks.{lower, upper, his_of}
use Rattle.layered_envelope.proofs.CountedParts.{hi_item, lo_item, item_within, item_hi, item_lo, below_item, lower_is, upper_is}
use Rattle.layered_envelope.proofs.GatheredParts.{gathers_none, gathers_more, gathers_all, gathers_last, item_counts}
use Rattle.layered_envelope.proofs.gathering.gather_last.Goals as goal

pub loop-choice-init : goal.loop-choice-init
loop-choice-init c =
    gathers_none c.args.threshold c.args.before.lo c.args.before.hi c.args.list.now [] c.args.gathering.now

pub returns-then-not-exceeds : goal.returns-then-not-exceeds
returns-then-not-exceeds c =
    let l = c.args.list.now in
    let p = c.loop-choice.choice-index in
    let items = c.items-choice-items.result.now in
    let are = c.items-choice-items.ensures.items in
    let inside : p < length items = omega arith in
    let item = c.choice-item.result in
    let h = c.enclosure-item.result.hi in
    let hi : hi_item (l ∷ []) p ≡ h =
    item_hi l [] items are p inside item c.choice-item.is ∙ sym c.enclosure-item.ensures.hi in
    gathers_all c.args.threshold c.args.before.lo c.args.before.hi l [] p c.args.gathering.now
    c.loop-choice.gathering c.loop-choice.invariant c.requires.falling
    (λ within. below_item c.args.threshold c.args.before.hi h p l [] [] refl hi c.if-not-exceeds.ensures.1)

pub loop-choice-preserved : goal.loop-choice-preserved
loop-choice-preserved c =
    let l = c.args.list.now in
    let p = c.loop-choice.choice-index in
    let items = c.items-choice-items.result.now in
    let are = c.items-choice-items.ensures.items in
    let inside : p < length items = omega arith in
    let item = c.choice-item.result in
    let h = c.enclosure-item.result.hi in
    let hi : hi_item (l ∷ []) p ≡ h =
    item_hi l [] items are p inside item c.choice-item.is ∙ sym c.enclosure-item.ensures.hi in
    let k = c.enclosure-item.result.lo in
    let lo : lo_item (l ∷ []) p ≡ k =
    item_lo l [] items are p inside item c.choice-item.is ∙ sym c.enclosure-item.ensures.lo in
    let counts = item_counts l items are p inside item c.choice-item.is ∙ sym c.counts.ensures in
    let t = c.args.threshold in
    let y = c.args.before.lo in
    let x = c.args.before.hi in
    let now = c.loop-choice.gathering in
    let new = c.push_member.new.gathering in
    let so_far = c.loop-choice.invariant in
    let pushed = c.in_ok-push_member.ensures in
    let member = gathers_last t y x h k c.counts.result.now c.times.result c.args.gathering.now now new
    (c.if-not-exceeds.ensures.0 refl) (lower_is y k c.times.result.lo c.times.ensures.lo)
    (upper_is x h c.times.result.hi c.times.ensures.hi) so_far.chosen pushed in
    gathers_more t y x l [] p c.args.gathering.now now so_far new h k c.counts.result.now
    (item_within l [] items are p inside) hi lo counts member (pushed.chosen ∙ so_far.chosen)
