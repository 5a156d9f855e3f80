use Rattle.std.proofs.Common.{◌≡◌, ◌-◌, ◌≤◌, ℕ, List, arith}
use Rattle.multinomial_bounds.specs.Isotopologue.{Element}
use Rattle.isotopologue_sets.specs.Layers.{lo_total, layer, threshold_at}
use Rattle.reaching_layer.proofs.EarlierLayers.{earlier-told}
use Rattle.reaching_layer.proofs.SearchSteps.{earlier-lower, reaching-number, not_here}
use Rattle.reaching_layer.proofs.layer.reaching_number.Goals as goal

pub returns-then-lower_total_above-from : goal.returns-then-lower_total_above-from
returns-then-lower_total_above-from c =
    let es : List Element = c.args.layers.now.elements in
    let l = c.args.layers.now in
    let n : ℕ = c.loop-number.number in
    let from : 1 ≤ n = omega (arith, c.requires.past.some, c.loop-number.auto.number) in
    let to : n ≤ l.given = omega (arith, c.loop-number-test.true, c.given-number-end.ensures.value) in
    let lower = earlier-lower es c.requires.elements c.args.coverage c.requires.below_one c.args.first l c.requires.past n
    from to in
    let total : c.lower_total_above.result ≡ lo_total es (layer es (threshold_at es (n - 1))) =
    earlier-told es (threshold_at es (l.given - 1)) (threshold_at es (n - 1)) lower c.args.members.now
    c.threshold_of-threshold.result c.lower_total_above.result c.requires.members c.threshold_of-threshold.ensures
    c.lower_total_above.ensures in
    reaching-number es c.requires.elements c.args.coverage c.requires.below_one c.args.first l c.requires.past n from to
    c.loop-number.invariant (omega (arith, total, c.if-lower_total_above-from.true, c.from.ensures))

pub loop-number-preserved : goal.loop-number-preserved
loop-number-preserved c =
    let es : List Element = c.args.layers.now.elements in
    let l = c.args.layers.now in
    let n : ℕ = c.loop-number.number in
    let from : 1 ≤ n = omega (arith, c.requires.past.some, c.loop-number.auto.number) in
    let to : n ≤ l.given = omega (arith, c.loop-number-test.true, c.given-number-end.ensures.value) in
    let lower = earlier-lower es c.requires.elements c.args.coverage c.requires.below_one c.args.first l c.requires.past n
    from to in
    let total : c.lower_total_above.result ≡ lo_total es (layer es (threshold_at es (n - 1))) =
    earlier-told es (threshold_at es (l.given - 1)) (threshold_at es (n - 1)) lower c.args.members.now
    c.threshold_of-threshold.result c.lower_total_above.result c.requires.members c.threshold_of-threshold.ensures
    c.lower_total_above.ensures in
    not_here es c.requires.elements c.args.coverage c.requires.below_one c.args.first l c.requires.past n from to
    c.loop-number.invariant (omega (arith, total, c.if-lower_total_above-from.false, c.from.ensures))

pub returns : goal.returns
returns c =
    let es : List Element = c.args.layers.now.elements in
    let l = c.args.layers.now in
    let from : 1 ≤ c.given.result =
    omega (arith, c.requires.past.some, c.requires.past.first_given, c.given.ensures.value) in
    let to : c.given.result ≤ l.given = omega (arith, c.given.ensures.value) in
    reaching-number es c.requires.elements c.args.coverage c.requires.below_one c.args.first l c.requires.past
    c.given.result from to
    (λ k less. c.loop-number.invariant k
    (omega (arith, less, c.loop-number-test.false, c.given-number-end.ensures.value, c.given.ensures.value)))
    (rw c.given.ensures.value c.requires.past.reaches)
