use Rattle.std.proofs.Common.{◌≡◌, ℕ, ◌*◌, ◌<◌, ◌≤◌, List, ◌∷◌, ◌+◌, length, fold, refl, sym, ◌∙◌, ap, subst, arith}
use Rattle.std.proofs.lemmas.Bool.{OnTrue_from, OnTrue_at, OnFalse_from, OnFalse_at}
use Rattle.std.proofs.lemmas.List.{length-map}
use Rattle.std.proofs.lemmas.List.Elements.{All-drop}
use Rattle.multinomial_bounds.specs.Bounds.{certainty}
use Rattle.sub_isotopologues.specs.Listings.{Listing, items_of}
use Rattle.layered_envelope.specs.declared.layer_end.TheConstants.{MAX_MEMBERS}
use Rattle.layered_envelope.specs.ChosenPlaces.{firsts}
use Rattle.layered_envelope.specs.Walks.{lower, upper, his_of}
use Rattle.layered_envelope.specs.CountedWalks.{members_above}
use Rattle.layered_envelope.proofs.CountedParts.{members_from, hi_item, lo_item, members_all, members_some, members_next, adds_none, adds_more, adds_all}
use Rattle.layered_envelope.proofs.CountedParts.{adds_member, one_too_many, steps_more, steps_to_limit, item_within, item_hi, item_lo}
use Rattle.layered_envelope.proofs.CountedParts.{members_fewer, below_item, modes_later, firsts_later, above_items, above_member, lower_is, upper_is, none_of}
use Rattle.layered_envelope.proofs.CutoffLaws.{cutoff_first, cutoffs_part}
use Rattle.layered_envelope.proofs.counting.+counting.Goals as goal

pub count_chosen-count_items-requires : goal.count_chosen-count_items-requires
count_chosen-count_items-requires g t c κs within =
    let l = c.in-Some.list.now in
    let ls = c.in-Some.later.now in
    let split = c.in-Some.ensures.cases.0 in
    let product : c.times.result.hi ≡ upper c.args.before.hi c.args.item.hi =
    upper_is c.args.before.hi c.args.item.hi c.times.result.hi c.times.ensures.hi in (
      omega (arith, c.decreases, ap length split),
      (
        within,
        (
          rw split at c.requires.falling,
          (
            rw split at c.requires.cutoffs,
            (
              above_items c.args.lists.now l ls split (firsts (his_of c.args.lists.now)) c.args.threshold
                  (upper c.args.before.hi c.args.item.hi) c.times.result.hi product refl c.requires.above,
              (
                c.requires.fits,
                c.requires.lower,
              ),
            ),
          ),
        ),
      ),
    )

pub count_chosen-returns-in-None-clause-adds : goal.count_chosen-returns-in-None-clause-adds
count_chosen-returns-in-None-clause-adds g t c =
    let x : ℕ = upper c.args.before.hi c.args.item.hi in
    let none = none_of c.args.lists.now c.in-None.ensures.cases in
    let over = above_member c.args.lists.now (firsts (his_of c.args.lists.now)) c.args.threshold x none refl
    c.requires.above in
    rw none
    (OnTrue_from c.count_member.result _
    (λ e.
    adds_member c.args.threshold (lower c.args.before.lo c.args.item.lo) x over c.args.end.now c.count_member.new.end
    (OnTrue_at e c.count_member.ensures.counted)))

pub count_chosen-returns-in-None-clause-too_many : goal.count_chosen-returns-in-None-clause-too_many
count_chosen-returns-in-None-clause-too_many g t c =
    let x : ℕ = upper c.args.before.hi c.args.item.hi in
    let none = none_of c.args.lists.now c.in-None.ensures.cases in
    let over = above_member c.args.lists.now (firsts (his_of c.args.lists.now)) c.args.threshold x none refl
    c.requires.above in
    rw none
    (OnFalse_from c.count_member.result _
    (λ e.
    one_too_many c.args.threshold (lower c.args.before.lo c.args.item.lo) x over c.args.end.now
    (OnFalse_at e c.count_member.ensures.is_new) (OnFalse_at e c.count_member.ensures.full)))

pub count_chosen-returns-in-Some-clause-adds : goal.count_chosen-returns-in-Some-clause-adds
count_chosen-returns-in-Some-clause-adds g t c =
    let lo = lower_is c.args.before.lo c.args.item.lo c.times.result.lo c.times.ensures.lo in
    let hi = upper_is c.args.before.hi c.args.item.hi c.times.result.hi c.times.ensures.hi in
    rw (c.in-Some.ensures.cases.0, ← lo, ← hi) c.count_items.ensures.adds

pub count_chosen-returns-in-Some-clause-too_many : goal.count_chosen-returns-in-Some-clause-too_many
count_chosen-returns-in-Some-clause-too_many g t c =
    let hi = upper_is c.args.before.hi c.args.item.hi c.times.result.hi c.times.ensures.hi in
    rw (c.in-Some.ensures.cases.0, ← hi) c.count_items.ensures.too_many

pub count_chosen-returns-in-Some-clause-steps : goal.count_chosen-returns-in-Some-clause-steps
count_chosen-returns-in-Some-clause-steps g t c =
    let hi = upper_is c.args.before.hi c.args.item.hi c.times.result.hi c.times.ensures.hi in
    rw (c.in-Some.ensures.cases.0, ← hi) c.count_items.ensures.steps

pub count_chosen-returns-in-Some-clause-steps_at_limit : goal.count_chosen-returns-in-Some-clause-steps_at_limit
count_chosen-returns-in-Some-clause-steps_at_limit g t c =
    let hi = upper_is c.args.before.hi c.args.item.hi c.times.result.hi c.times.ensures.hi in
    rw (c.in-Some.ensures.cases.0, ← hi) c.count_items.ensures.steps_at_limit

pub count_items-loop-choice-init : goal.count_items-loop-choice-init
count_items-loop-choice-init g t c =
    let lists : List Listing = c.args.list.now ∷ c.args.later.now in
    let x = c.args.before.hi in
    record {
      adds = adds_none c.args.threshold c.args.before.lo x lists c.args.end.now (omega arith);
      fits = c.requires.fits;
      steps =
          omega (
            arith,
            ap (λ (k : ℕ). 2 * length c.args.later.now * k) (members_all c.args.threshold x lists (omega arith)),
          );
    }

pub count_items-returns-then-not-passes-clause-adds : goal.count_items-returns-then-not-passes-clause-adds
count_items-returns-then-not-passes-clause-adds g t c =
    let l = c.args.list.now in
    let ls = c.args.later.now in
    let lists : List Listing = l ∷ ls in
    let x = c.args.before.hi in
    let p = c.loop-choice.choice-index in
    let items = c.items-choice-items.result.now in
    let are = c.items-choice-items.ensures.items in
    let inside : p < length items = omega arith in
    let item = c.choice-item.result in
    let h = c.enclosure-item.result.hi in
    let hi : hi_item lists p ≡ h =
    item_hi l ls items are p inside item c.choice-item.is ∙ sym c.enclosure-item.ensures.hi in
    adds_all c.args.threshold c.args.before.lo x lists p c.args.end.now c.loop-choice.end c.loop-choice.invariant.adds
    c.requires.falling c.requires.lower
    (λ within.
    below_item c.args.threshold x h p l ls (firsts (his_of ls)) refl hi
    (c.if-not-passes.ensures.above c.args.threshold (firsts (his_of ls))
    (cutoff_first c.args.threshold l ls c.args.cutoffs.now c.requires.cutoffs)).1)

pub count_items-returns-then-not-passes-clause-steps : goal.count_items-returns-then-not-passes-clause-steps
count_items-returns-then-not-passes-clause-steps g t c =
    let lists : List Listing = c.args.list.now ∷ c.args.later.now in
    omega (
      arith,
      c.if-not-passes.ensures.step,
      c.loop-choice.invariant.steps,
      c.loop-choice.invariant.adds.passed,
      members_some c.args.threshold c.args.before.hi lists c.requires.falling c.requires.above,
    )

pub count_items-count_chosen-requires : goal.count_items-count_chosen-requires
count_items-count_chosen-requires g t c κs within =
    let l = c.args.list.now in
    let ls = c.args.later.now in
    let over = (c.if-not-passes.ensures.above c.args.threshold (firsts (his_of ls))
    (cutoff_first c.args.threshold l ls c.args.cutoffs.now c.requires.cutoffs)).0 refl in (
      omega (arith, c.decreases),
      (
        within,
        (
          c.requires.falling.1,
          (
            cutoffs_part c.args.threshold l ls c.args.cutoffs.now c.requires.cutoffs,
            (
              over,
              (
                c.loop-choice.invariant.fits,
                omega (arith, c.loop-choice.invariant.adds.same, c.requires.lower),
              ),
            ),
          ),
        ),
      ),
    )

pub count_items-returns-then-not-count_chosen-clause-too_many :
    goal.count_items-returns-then-not-count_chosen-clause-too_many
count_items-returns-then-not-count_chosen-clause-too_many g t c =
    let l = c.args.list.now in
    let ls = c.args.later.now in
    let lists : List Listing = l ∷ ls in
    let x = c.args.before.hi in
    let p = c.loop-choice.choice-index in
    let items = c.items-choice-items.result.now in
    let are = c.items-choice-items.ensures.items in
    let inside : p < length items = omega arith in
    let item = c.choice-item.result in
    let h = c.enclosure-item.result.hi in
    let hi : hi_item lists p ≡ h =
    item_hi l ls items are p inside item c.choice-item.is ∙ sym c.enclosure-item.ensures.hi in
    let lo : lo_item lists p ≡ c.enclosure-item.result.lo =
    item_lo l ls items are p inside item c.choice-item.is ∙ sym c.enclosure-item.ensures.lo in
    let within = item_within l ls items are p inside in
    let next = members_next c.args.threshold x lists p h c.enclosure-item.result.lo within hi lo in
    let older_next = members_next c.args.end.now.threshold x lists p h c.enclosure-item.result.lo within hi lo in
    let so_far = c.loop-choice.invariant.adds in
    omega (
      arith,
      so_far.members,
      next,
      older_next,
      members_fewer c.args.threshold c.args.end.now.threshold c.requires.lower x lists (p + 1),
      rw so_far.same at c.if-not-count_chosen.ensures.too_many,
    )

pub count_items-returns-then-not-count_chosen-clause-steps_at_limit :
    goal.count_items-returns-then-not-count_chosen-clause-steps_at_limit
count_items-returns-then-not-count_chosen-clause-steps_at_limit g t c =
    let l = c.args.list.now in
    let ls = c.args.later.now in
    let lists : List Listing = l ∷ ls in
    let x = c.args.before.hi in
    let p = c.loop-choice.choice-index in
    let items = c.items-choice-items.result.now in
    let are = c.items-choice-items.ensures.items in
    let inside : p < length items = omega arith in
    let item = c.choice-item.result in
    let h = c.enclosure-item.result.hi in
    let hi : hi_item lists p ≡ h =
    item_hi l ls items are p inside item c.choice-item.is ∙ sym c.enclosure-item.ensures.hi in
    let lo : lo_item lists p ≡ c.enclosure-item.result.lo =
    item_lo l ls items are p inside item c.choice-item.is ∙ sym c.enclosure-item.ensures.lo in
    let within = item_within l ls items are p inside in
    let next = members_next c.args.threshold x lists p h c.enclosure-item.result.lo within hi lo in
    let older_next = members_next c.args.end.now.threshold x lists p h c.enclosure-item.result.lo within hi lo in
    let so_far = c.loop-choice.invariant.adds in
    steps_to_limit (length ls) c.loop-choice.steps c.count_chosen.new.steps c.args.steps.now p
    (members_from c.args.threshold x lists p) (members_above c.args.threshold x lists) c.loop-choice.invariant.steps
    c.args.end.now.members c.loop-choice.end.members (members_above c.args.end.now.threshold x lists)
    (members_from c.args.end.now.threshold x lists p)
    (members_above c.args.end.now.threshold (upper x h) ls) MAX_MEMBERS so_far.members so_far.passed
    (omega (arith, older_next)) c.loop-choice.invariant.fits.members
    (omega (arith, rw so_far.same at c.if-not-count_chosen.ensures.steps_at_limit, c.if-not-passes.ensures.step))

pub count_items-loop-choice-preserved : goal.count_items-loop-choice-preserved
count_items-loop-choice-preserved g t c =
    let l = c.args.list.now in
    let ls = c.args.later.now in
    let lists : List Listing = l ∷ ls in
    let x = c.args.before.hi in
    let p = c.loop-choice.choice-index in
    let items = c.items-choice-items.result.now in
    let are = c.items-choice-items.ensures.items in
    let inside : p < length items = omega arith in
    let item = c.choice-item.result in
    let h = c.enclosure-item.result.hi in
    let hi : hi_item lists p ≡ h =
    item_hi l ls items are p inside item c.choice-item.is ∙ sym c.enclosure-item.ensures.hi in
    let lo : lo_item lists p ≡ c.enclosure-item.result.lo =
    item_lo l ls items are p inside item c.choice-item.is ∙ sym c.enclosure-item.ensures.lo in
    let within = item_within l ls items are p inside in
    let next = members_next c.args.threshold x lists p h c.enclosure-item.result.lo within hi lo in
    let older_next = members_next c.args.end.now.threshold x lists p h c.enclosure-item.result.lo within hi lo in
    let so_far = c.loop-choice.invariant.adds in
    let over = (c.if-not-passes.ensures.above c.args.threshold (firsts (his_of ls))
    (cutoff_first c.args.threshold l ls c.args.cutoffs.now c.requires.cutoffs)).0 refl in
    record {
      adds = adds_more c.args.threshold c.args.before.lo x lists p c.args.end.now c.loop-choice.end so_far
          c.count_chosen.new.end h c.enclosure-item.result.lo within hi lo
          (members_some c.args.threshold (upper x h) ls c.requires.falling.1 over)
          c.if-not-count_chosen.ensures.adds;
      fits = c.if-not-count_chosen.ensures.fits;
      steps = steps_more (length ls) c.loop-choice.steps c.count_chosen.new.steps c.args.steps.now p
          (members_from c.args.threshold x lists p) (members_above c.args.threshold x lists)
          c.loop-choice.invariant.steps (members_above c.args.threshold (upper x h) ls)
          (members_from c.args.threshold x lists (p + 1)) next
          (omega (arith, c.if-not-count_chosen.ensures.steps, c.if-not-passes.ensures.step));
    }

pub count_items-returns-clause-adds : goal.count_items-returns-clause-adds
count_items-returns-clause-adds g t c =
    let l = c.args.list.now in
    let p = c.loop-choice.choice-index in
    adds_all c.args.threshold c.args.before.lo c.args.before.hi (l ∷ c.args.later.now) p c.args.end.now
    c.loop-choice.end c.loop-choice.invariant.adds c.requires.falling c.requires.lower
    (λ within.
    absurd (omega (
      arith,
      within,
      ap length c.items-choice-items.ensures.items,
      length-map (items_of l) (λ i. i.hi),
    )))
