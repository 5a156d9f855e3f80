use Rattle.std.proofs.Common.{◌≡◌, ◌-◌, ◌^◌, ◌*◌, get_or, sym, ap, ◌∙◌, arith}
use Rattle.decompose.proofs.ProbeSteps.{taken_at, taken_more, taken_less, scaled_at-taken, scaled_fits_at}
use Rattle.decompose.proofs.ProbeSteps.{no_level, no_symbol}
use Rattle.decompose.proofs.probes.scaled_at.Goals as goal

pub overflow_mul-mass : goal.overflow_mul-mass
overflow_mul-mass c =
    let fits =
    scaled_fits_at c.args.symbols.now c.args.levels.now c.loop-before.before no_level no_symbol
    (omega (arith, c.requires.place, c.loop-before-test.true)) c.requires.symbols c.requires.in_box in
    omega (arith, fits, ap (λ n. n * (get_or c.args.symbols.now c.loop-before.before no_symbol).scaled) c.from.ensures)

pub loop-before-preserved : goal.loop-before-preserved
loop-before-preserved c =
    let sum = rw c.from.ensures at c.saturating_add-taken.ensures in
    let more =
    taken_more c.args.symbols.now c.args.levels.now c.loop-before.before no_level no_symbol
    (omega (arith, c.requires.place, c.loop-before-test.true)) c.requires.one_each in
    omega (arith, sum, more, c.loop-before.invariant)

pub returns : goal.returns
returns c many =
    let here : c.loop-before.before ≡ c.args.place =
    omega (arith, c.loop-before-test.false, c.loop-before.auto.before-end) in
    let taken = rw here at c.loop-before.invariant in
    c.window_less.ensures
    ∙ rw taken
    (taken_less c.args.scaled (taken_at c.args.symbols.now c.args.levels.now c.args.place) (2 ^ 64 - 1)
    c.requires.ordered (omega (arith, c.requires.in_range)))
    ∙ sym (scaled_at-taken c.args.symbols.now c.args.levels.now c.args.scaled c.args.place)
