use Rattle.std.proofs.Common.{◌≡◌, ◌+◌, ◌-◌, ◌%◌, length, refl, arith}
use Rattle.residue_table.proofs.ProbedRows.{multiple_reached, somewhere}
use Rattle.residue_table.proofs.rows.Row.reaches_in.Goals as goal

pub returns-then-modulus-residue : goal.returns-then-modulus-residue
returns-then-modulus-residue c =
    let entries = c.args.self.now.entries.items in
    let modulus : c.len-modulus.result ≡ length entries = cc in
    let reach = rw modulus at c.if-modulus-residue.true in (
      λ h. (
        c.args.lo + (length entries - c.args.lo % length entries),
        omega arith,
        omega (arith, reach, c.requires.ordered),
        multiple_reached entries c.args.lo (c.args.lo % length entries) refl c.requires.indexed.some
            c.requires.indexed.from_zero,
      ),
      λ h. refl,
    )

pub returns : goal.returns
returns c =
    let entries = c.args.self.now.entries.items in
    let modulus : c.len-modulus.result ≡ length entries = cc in
    let residue = c.args.lo % length entries in
    somewhere entries c.args.lo residue refl c.requires.indexed.some c.args.hi (residue + (c.args.hi - c.args.lo))
    c.reaches_between.result c.requires.ordered refl
    (omega (arith, rw modulus at c.if-modulus-residue.false)) (rw modulus at c.reaches_between.ensures.some)
    (rw modulus at c.reaches_between.ensures.none)
