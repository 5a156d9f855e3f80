use Rattle.std.proofs.Common.{ℕ, ◌*◌, length, ap, arith}
use Rattle.layered_envelope.proofs.CountedLayers.{one_hi, one_lo, members_last, members_new, counted_new, too_many_new}
use Rattle.layered_envelope.proofs.counting.count_members.Goals as goal

pub count_chosen-requires-clause-above : goal.count_chosen-requires-clause-above
count_chosen-requires-clause-above g c =
    rw (one_hi c.certain-certain.result.hi c.certain-certain.result.hi c.certain-certain.ensures.hi
    c.certain-certain.ensures.hi) c.requires.above

pub returns-then-not-count_chosen-clause-counted : goal.returns-then-not-count_chosen-clause-counted
returns-then-not-count_chosen-clause-counted g c =
    let hi = one_hi c.certain-certain.result.hi c.certain-certain.result.hi c.certain-certain.ensures.hi
    c.certain-certain.ensures.hi in
    too_many_new c.args.lists.now c.args.threshold c.args.last c.requires.last
    (rw hi at c.if-not-count_chosen.ensures.too_many)

pub returns-then-not-count_chosen-clause-steps_at_limit : goal.returns-then-not-count_chosen-clause-steps_at_limit
returns-then-not-count_chosen-clause-steps_at_limit g c =
    let hi = one_hi c.certain-certain.result.hi c.certain-certain.result.hi c.certain-certain.ensures.hi
    c.certain-certain.ensures.hi in
    omega (
      arith,
      rw hi at c.if-not-count_chosen.ensures.steps_at_limit,
      ap (λ (k : ℕ). 2 * length c.args.lists.now * k)
          (members_last c.args.lists.now c.args.threshold c.args.last c.requires.last),
    )

pub returns-clause-counted : goal.returns-clause-counted
returns-clause-counted g c =
    let hi = one_hi c.certain-certain.result.hi c.certain-certain.result.hi c.certain-certain.ensures.hi
    c.certain-certain.ensures.hi in
    let lo = one_lo c.certain-certain.result.lo c.certain-certain.result.lo c.certain-certain.ensures.lo
    c.certain-certain.ensures.lo in
    counted_new c.args.lists.now c.args.threshold c.args.last c.requires.last c.count_chosen.new.end
    (rw (hi, lo) at c.if-not-count_chosen.ensures.adds) c.if-not-count_chosen.ensures.fits.members

pub returns-clause-steps : goal.returns-clause-steps
returns-clause-steps g c =
    let hi = one_hi c.certain-certain.result.hi c.certain-certain.result.hi c.certain-certain.ensures.hi
    c.certain-certain.ensures.hi in
    let lo = one_lo c.certain-certain.result.lo c.certain-certain.result.lo c.certain-certain.ensures.lo
    c.certain-certain.ensures.lo in
    rw (members_new c.args.lists.now c.args.threshold c.args.last c.requires.last c.count_chosen.new.end
    (rw (hi, lo) at c.if-not-count_chosen.ensures.adds))
    (rw hi at c.if-not-count_chosen.ensures.steps)
