use Rattle.std.proofs.Common.{rules, ◌≡◌, ◌+◌, ◌<◌, ◌++◌, ◌∷◌, List, length, take, fold, refl, sym, ◌∙◌, ap, subst, arith, ℕ}
use Rattle.std.proofs.lemmas.List.{length-map}
use Rattle.std.proofs.Math.Seq.{take-append_seam}
use Rattle.sub_isotopologues.specs.Listings.{Listing, items_of}
use Rattle.layered_envelope.specs.ChosenPlaces.{firsts}
use Rattle.layered_envelope.specs.Walks.{lower, upper, his_of}
use Rattle.layered_envelope.proofs.CountedParts.{hi_item, lo_item, item_within, item_hi, item_lo, below_item, lower_is, upper_is}
use Rattle.layered_envelope.proofs.CutoffLaws.{cutoff_first, cutoffs_part}
use Rattle.layered_envelope.proofs.GatheredParts.{gathers_none, gathers_more, gathers_all, item_counts}
use Rattle.layered_envelope.proofs.gathering.+gathering.Goals as goal

pub gather_items-loop-choice-init : goal.gather_items-loop-choice-init
gather_items-loop-choice-init t c =
    gathers_none c.args.threshold c.args.before.lo c.args.before.hi c.args.list.now c.args.later.now
    c.args.gathering.now

pub gather_items-returns-then-not-is_over : goal.gather_items-returns-then-not-is_over
gather_items-returns-then-not-is_over t c =
    let ls = c.args.later.now in
    let l = c.args.list.now in
    let p = c.loop-choice.choice-index in
    let items = c.items-choice-items.result.now in
    let are = c.items-choice-items.ensures.items in
    let inside : p < length items = omega arith in
    let item = c.choice-item.result in
    let h = c.enclosure-item.result.hi in
    let hi : hi_item (l ∷ ls) p ≡ h =
    item_hi l ls items are p inside item c.choice-item.is ∙ sym c.enclosure-item.ensures.hi in
    gathers_all c.args.threshold c.args.before.lo c.args.before.hi l ls p c.args.gathering.now
    c.loop-choice.gathering c.loop-choice.invariant c.requires.falling
    (λ within.
    below_item c.args.threshold c.args.before.hi h p l ls (firsts (his_of ls)) refl hi
    (c.if-not-is_over.ensures c.args.threshold (firsts (his_of ls))
    (cutoff_first c.args.threshold l ls c.args.cutoffs.now c.requires.cutoffs)).1)

pub gather_items-gather_chosen-requires : goal.gather_items-gather_chosen-requires
gather_items-gather_chosen-requires t c =
    let l = c.args.list.now in
    let ls = c.args.later.now in
    let over = (c.if-not-is_over.ensures c.args.threshold (firsts (his_of ls))
    (cutoff_first c.args.threshold l ls c.args.cutoffs.now c.requires.cutoffs)).0 refl in
    let product = upper_is c.args.before.hi c.enclosure-item.result.hi c.times-product.result.hi
    c.times-product.ensures.hi in (
      omega (arith, c.decreases),
      (
        c.requires.falling.1,
        (
          cutoffs_part c.args.threshold l ls c.args.cutoffs.now c.requires.cutoffs,
          subst (λ (n : ℕ). c.args.threshold < fold upper n (firsts (his_of ls))) (sym product) over,
        ),
      ),
    )

pub gather_items-loop-choice-preserved : goal.gather_items-loop-choice-preserved
gather_items-loop-choice-preserved t c =
    let ls = c.args.later.now in
    let l = c.args.list.now in
    let p = c.loop-choice.choice-index in
    let items = c.items-choice-items.result.now in
    let are = c.items-choice-items.ensures.items in
    let inside : p < length items = omega arith in
    let item = c.choice-item.result in
    let h = c.enclosure-item.result.hi in
    let hi : hi_item (l ∷ ls) p ≡ h =
    item_hi l ls items are p inside item c.choice-item.is ∙ sym c.enclosure-item.ensures.hi in
    let k = c.enclosure-item.result.lo in
    let lo : lo_item (l ∷ ls) p ≡ k =
    item_lo l ls items are p inside item c.choice-item.is ∙ sym c.enclosure-item.ensures.lo in
    let counts = item_counts l items are p inside item c.choice-item.is ∙ sym c.counts.ensures in
    let y = c.args.before.lo in
    let x = c.args.before.hi in
    let old = c.args.gathering.now in
    let cs = c.counts.result.now in
    let so_far = c.loop-choice.invariant in
    let all = c.in_ok-gather_chosen.ensures in
    let mid : c.extend_from_slice.new.self.items ≡ old.chosen.items ++ cs =
    c.in_ok-extend_from_slice.ensures.items ∙ ap (λ xs. xs ++ cs) so_far.chosen in
    let low = lower_is y k c.times-product.result.lo c.times-product.ensures.lo in
    let high = upper_is x h c.times-product.result.hi c.times-product.ensures.hi in
    let begins : c.len-length.result ≡ length old.chosen.items = search rules in
    let back = c.truncate.ensures.items
    ∙ ap (take c.len-length.result) (all.chosen ∙ mid)
    ∙ ap (λ (n : ℕ). take n (old.chosen.items ++ cs)) begins
    ∙ take-append_seam old.chosen.items cs in
    gathers_more c.args.threshold y x l ls p old c.loop-choice.gathering so_far _ h k cs
    (item_within l ls items are p inside) hi lo counts (rw (mid, low, high) at all.gathered) back
