-- A product of enclosures encloses the product, and is at most so wide as both together and 1 more.
use Rattle.std.proofs.Common.{◌-◌, arith}
use Rattle.multinomial_bounds.proofs.BoundLemmas.{IsEnclosure-times}
use Rattle.multinomial_bounds.proofs.WidthLemmas.{width-times}
use Rattle.multinomial_bounds.proofs.product.times.Goals as goal

pub returns-clause-encloses : goal.returns-clause-encloses
returns-clause-encloses c part whole part' whole' x y =
    rw (c.times_lower.ensures.value, c.times_upper.ensures.value)
    (IsEnclosure-times c.args.x.lo c.args.x.hi c.args.y.lo c.args.y.hi part whole part' whole' x y)

pub returns-clause-width : goal.returns-clause-width
returns-clause-width c =
    let x = c.args.x in
    let y = c.args.y in
    let product = width-times x.lo x.hi (x.hi - x.lo) y.lo y.hi (y.hi - y.lo)
    x.at_most_one (omega arith) (omega arith) (omega arith) in
    rw (c.times_lower.ensures.value, c.times_upper.ensures.value) (omega (arith, product))
