use Rattle.std.proofs.Common.{nat_abs, to_z, of_z, arith}
use Rattle.std.specs.Int.{w128}
use Rattle.std.proofs.lemmas.Int.{ints, clamps}
use Rattle.mass_scaling.proofs.CopiedMasses.{copies_between}
use Rattle.mass_scaling.proofs.windows.masses_between.Goals as goal

pub returns-then-lo-hi-clause-exact : goal.returns-then-lo-hi-clause-exact
returns-then-lo-hi-clause-exact c mass one =
    rw (c.div_ceil-lo.ensures, c.from-copies.ensures)
    (copies_between c.args.copies mass _ _ c.args.low c.args.high c.requires.some one (omega (arith, ints, clamps))
    (λ x some h. omega (arith, ints, clamps)) (omega (arith, ints)))

pub returns-else-lo-hi-clause-none : goal.returns-else-lo-hi-clause-none
returns-else-lo-hi-clause-none c none mass one lies =
    let least = nat_abs (to_z w128 (of_z w128 c.max.result)) in
    let greatest = nat_abs (to_z w128 (of_z w128 c.args.high)) in
    let exact =
    copies_between c.args.copies mass least greatest c.args.low c.args.high c.requires.some one
    (omega (arith, ints, clamps)) (λ x some h. omega (arith, ints, clamps)) (omega (arith, ints)) in
    let over = rw (c.div_ceil-lo.ensures, c.from-copies.ensures) at c.if-lo-hi.false in
    omega (arith, (exact.0 lies).0, (exact.0 lies).1, over)
