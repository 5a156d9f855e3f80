use Rattle.std.proofs.Common.{◌≡◌, ◌∷◌, [], ◌+◌, ◌-◌, ◌*◌, ◌%◌, ◌≤◌, length, refl, sym, ap, ◌∙◌, arith}
use Rattle.decompose.specs.declared.levels.Level.{Level}
use Rattle.decompose.proofs.WalkSteps.{walk_begins, walk_begins_not, walk_finds}
use Rattle.decompose.proofs.WalkSteps.{one_found, two_written, level_narrow}
use Rattle.decompose.proofs.LeapSteps.{leapt, leapt_remainder, leap_on, leap_ends}
use Rattle.decompose.proofs.walk.find_in_pair.Goals as goal

pub returns-in_default : goal.returns-in_default
returns-in_default c =
    (walk_begins_not c.args.heavier.now (c.args.lighter.now ∷ []) c.args.count c.args.window c.in_default.ensures, refl)

pub counts-init : goal.counts-init
counts-init c =
    let begun = c.in-Some.ensures in
    record {
      reaches = walk_begins c.args.heavier.now (c.args.lighter.now ∷ []) c.args.count c.args.window _ refl begun.1
          (level_narrow c.args.heavier.now.mass c.args.window c.in-Some.first c.args.count c.in-Some.first.left.hi
          c.requires.ordered begun.2 begun.0 refl);
      remainder = refl;
      unchanged = refl;
    }

pub returns-in-Some-first_by_remainder : goal.returns-in-Some-first_by_remainder
returns-in-Some-first_by_remainder c =
    let reaches = c.counts.invariant.reaches in
    let width = c.args.window.hi - c.args.window.lo in
    let level : Level =
    record { count = c.counts.count; left = record { lo = c.counts.hi - width; hi = c.counts.hi } } in
    let within = c.in-Some-first_by_remainder.ensures in
    let last = one_found c.args.lighter.now level.left c.in-Some-first_by_remainder.last within in
    rw (
      c.saturating_sub-lo.ensures,
      two_written c.counts.levels level c.in-Some-first_by_remainder.last
          (ap length c.counts.invariant.unchanged ∙ c.requires.two),
    ) (
      walk_finds c.args.heavier.now (c.args.lighter.now ∷ []) c.args.count c.args.window level reaches _ last,
      (reaches.is_level, (within.is_level, tt)),
    )

pub returns-in_default-raised_by : goal.returns-in_default-raised_by
returns-in_default-raised_by c =
    let width = c.args.window.hi - c.args.window.lo in
    let none =
    leapt c.args.heavier.now c.args.lighter.now c.args.count c.args.window width c.counts.hi c.counts.remainder
    c.args.strides.now c.leap-leap.result c.requires.positive c.requires.strides.mass c.requires.strides.fall
    c.leap-leap.ensures.leaps c.counts.invariant.remainder c.in_default-first_by_remainder.ensures in (
      leap_ends c.args.heavier.now c.args.lighter.now c.args.count c.args.window width c.leap-leap.result.times c.counts.count
          c.counts.hi c.counts.invariant.reaches none c.in_default-raised_by.ensures,
      c.counts.invariant.unchanged,
    )

pub counts-preserved : goal.counts-preserved
counts-preserved c =
    let width = c.args.window.hi - c.args.window.lo in
    let m = c.args.heavier.now.mass in
    let times = c.leap-leap.result.times in
    let raised = c.in-Some-raised_by.ensures in
    let none =
    leapt c.args.heavier.now c.args.lighter.now c.args.count c.args.window width c.counts.hi c.counts.remainder
    c.args.strides.now c.leap-leap.result c.requires.positive c.requires.strides.mass c.requires.strides.fall
    c.leap-leap.ensures.leaps c.counts.invariant.remainder c.in_default-first_by_remainder.ensures in
    let over : times * m ≤ c.counts.hi = omega (arith, raised.2) in
    let behind =
    leapt_remainder c.args.heavier.now c.args.lighter.now c.args.count c.args.window width c.counts.hi c.counts.remainder
    c.args.strides.now c.leap-leap.result c.requires.strides.mass c.requires.strides.fall
    c.leap-leap.ensures.leaps c.counts.invariant.remainder over in
    let one_more : c.counts.hi - times * m - m ≡ c.counts.hi - (times + 1) * m = omega arith in
    let less =
    c.remainder_less-remainder.ensures (c.counts.hi - times * m) m (omega (arith, raised.2)) behind
    (sym c.requires.strides.fall) in
    record {
      reaches = rw (raised.0, raised.3)
          (leap_on c.args.heavier.now c.args.lighter.now c.args.count c.args.window width times c.counts.count c.counts.hi
          c.counts.invariant.reaches none (omega (arith, raised.1)) raised.2);
      remainder = sym (ap (λ n. n % c.args.lighter.now.mass) (raised.3 ∙ sym one_more) ∙ less);
      unchanged = c.counts.invariant.unchanged;
    }
