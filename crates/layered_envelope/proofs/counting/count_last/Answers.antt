use Rattle.std.proofs.Common.{◌≡◌, ◌+◌, ◌<◌, List, ◌∷◌, [], length, refl, sym, ◌∙◌, ap, arith}
use Rattle.std.proofs.lemmas.List.{length-map}
use Rattle.sub_isotopologues.specs.Listings.{Listing, items_of}
use Rattle.layered_envelope.specs.Walks.{lower, upper}
use Rattle.layered_envelope.proofs.CountedParts.{hi_item, lo_item, members_some, members_next, adds_none, adds_more, adds_all}
use Rattle.layered_envelope.proofs.CountedParts.{adds_member, one_too_many, item_within, item_hi, item_lo}
use Rattle.layered_envelope.proofs.CountedParts.{members_fewer, below_item}
use Rattle.layered_envelope.proofs.counting.count_last.Goals as goal

pub loop-choice-init : goal.loop-choice-init
loop-choice-init g c = record {
  adds = adds_none c.args.threshold c.args.before.lo c.args.before.hi (c.args.list.now ∷ []) c.args.end.now
      (omega arith);
  fits = c.requires.fits;
  steps = omega arith;
}

pub returns-then-not-exceeds-clause-adds : goal.returns-then-not-exceeds-clause-adds
returns-then-not-exceeds-clause-adds g c =
    let l = c.args.list.now in
    let lists : List Listing = l ∷ [] in
    let t = c.args.threshold in
    let x = c.args.before.hi in
    let p = c.loop-choice.choice-index in
    let items = c.items-choice-items.result.now in
    let are = c.items-choice-items.ensures.items in
    let inside : p < length items = omega arith in
    let item = c.choice-item.result in
    let h = c.enclosure-item.result.hi in
    let hi : hi_item lists p ≡ h =
    item_hi l [] items are p inside item c.choice-item.is ∙ sym c.enclosure-item.ensures.hi in
    adds_all t c.args.before.lo x lists p c.args.end.now c.loop-choice.end c.loop-choice.invariant.adds
    c.requires.falling c.requires.lower (λ within. below_item t x h p l [] [] refl hi c.if-not-exceeds.ensures.1)

pub returns-then-not-exceeds-clause-steps : goal.returns-then-not-exceeds-clause-steps
returns-then-not-exceeds-clause-steps g c =
    let lists : List Listing = c.args.list.now ∷ [] in
    omega (
      arith,
      c.tick.ensures,
      c.loop-choice.invariant.steps,
      c.loop-choice.invariant.adds.passed,
      members_some c.args.threshold c.args.before.hi lists c.requires.falling c.requires.above,
    )

pub returns-then-not-count_member-clause-too_many : goal.returns-then-not-count_member-clause-too_many
returns-then-not-count_member-clause-too_many g c =
    let l = c.args.list.now in
    let lists : List Listing = l ∷ [] in
    let t = c.args.threshold in
    let x = c.args.before.hi in
    let p = c.loop-choice.choice-index in
    let items = c.items-choice-items.result.now in
    let are = c.items-choice-items.ensures.items in
    let inside : p < length items = omega arith in
    let item = c.choice-item.result in
    let h = c.enclosure-item.result.hi in
    let hi : hi_item lists p ≡ h =
    item_hi l [] items are p inside item c.choice-item.is ∙ sym c.enclosure-item.ensures.hi in
    let k = c.enclosure-item.result.lo in
    let lo : lo_item lists p ≡ k =
    item_lo l [] items are p inside item c.choice-item.is ∙ sym c.enclosure-item.ensures.lo in
    let within = item_within l [] items are p inside in
    let next = members_next t x lists p h k within hi lo in
    let older_next = members_next c.args.end.now.threshold x lists p h k within hi lo in
    let so_far = c.loop-choice.invariant.adds in
    let over = c.if-not-exceeds.ensures.0 refl in
    let child = one_too_many t (lower c.args.before.lo k) (upper x h) over c.loop-choice.end
    c.if-not-count_member.ensures.is_new c.if-not-count_member.ensures.full in
    omega (
      arith,
      so_far.members,
      next,
      older_next,
      members_fewer t c.args.end.now.threshold c.requires.lower x lists (p + 1),
      rw so_far.same at child,
    )

pub returns-then-not-count_member-clause-steps_at_limit : goal.returns-then-not-count_member-clause-steps_at_limit
returns-then-not-count_member-clause-steps_at_limit g c =
    let so_far = c.loop-choice.invariant.adds in
    omega (
      arith,
      c.tick.ensures,
      c.loop-choice.invariant.steps,
      so_far.passed,
      so_far.members,
      members_fewer c.args.threshold c.args.end.now.threshold c.requires.lower c.args.before.hi
          (c.args.list.now ∷ []) c.loop-choice.choice-index,
      c.loop-choice.invariant.fits.members,
    )

pub loop-choice-preserved : goal.loop-choice-preserved
loop-choice-preserved g c =
    let l = c.args.list.now in
    let lists : List Listing = l ∷ [] in
    let t = c.args.threshold in
    let x = c.args.before.hi in
    let p = c.loop-choice.choice-index in
    let items = c.items-choice-items.result.now in
    let are = c.items-choice-items.ensures.items in
    let inside : p < length items = omega arith in
    let item = c.choice-item.result in
    let h = c.enclosure-item.result.hi in
    let hi : hi_item lists p ≡ h =
    item_hi l [] items are p inside item c.choice-item.is ∙ sym c.enclosure-item.ensures.hi in
    let k = c.enclosure-item.result.lo in
    let lo : lo_item lists p ≡ k =
    item_lo l [] items are p inside item c.choice-item.is ∙ sym c.enclosure-item.ensures.lo in
    let within = item_within l [] items are p inside in
    let next = members_next t x lists p h k within hi lo in
    let older_next = members_next c.args.end.now.threshold x lists p h k within hi lo in
    let so_far = c.loop-choice.invariant.adds in
    let over = c.if-not-exceeds.ensures.0 refl in
    record {
      adds = adds_more t c.args.before.lo x lists p c.args.end.now c.loop-choice.end so_far c.count_member.new.end h k
          within hi lo (members_some t (upper x h) [] tt over)
          (adds_member t (lower c.args.before.lo k) (upper x h) over c.loop-choice.end c.count_member.new.end
          c.if-not-count_member.ensures.counted);
      fits = c.if-not-count_member.ensures.fits;
      steps = omega (arith, c.tick.ensures, c.loop-choice.invariant.steps);
    }

pub returns-clause-adds : goal.returns-clause-adds
returns-clause-adds g c =
    let l = c.args.list.now in
    adds_all c.args.threshold c.args.before.lo c.args.before.hi (l ∷ []) c.loop-choice.choice-index c.args.end.now
    c.loop-choice.end c.loop-choice.invariant.adds c.requires.falling c.requires.lower
    (λ within.
    absurd (omega (
      arith,
      within,
      ap length c.items-choice-items.ensures.items,
      length-map (items_of l) (λ i. i.hi),
    )))

pub returns-clause-steps : goal.returns-clause-steps
returns-clause-steps g c =
    omega (arith, c.loop-choice.invariant.steps, c.loop-choice.invariant.adds.passed)
