use Rattle.std.proofs.Common.{◌≡◌, ◌%◌, ◌<◌, length, refl, arith}
use Rattle.std.proofs.lemmas.Nat.{mod_below}
use Rattle.residue_table.proofs.ProbedRows.{found, multiple_of, nowhere_of}
use Rattle.residue_table.proofs.rows.Row.first_in.Goals as goal

pub returns-in-Some-clause-least : goal.returns-in-Some-clause-least
returns-in-Some-clause-least c =
    let entries = c.args.self.now.entries.items in
    let residue = c.args.lo % c.len-modulus.result in
    let is : residue ≡ c.args.lo % length entries = cc in
    let below : residue < length entries = rw is (mod_below c.args.lo (length entries) c.requires.indexed.some) in
    found entries c.args.lo residue is c.requires.indexed.some c.args.hi c.min-number.result c.in-Some.place
    (omega (arith, below, c.min-number.ensures, c.len-modulus.ensures)) (omega (arith, c.min-number.ensures))
    (c.in-Some.ensures.first)

pub returns-in-None-clause-least : goal.returns-in-None-clause-least
returns-in-None-clause-least c =
    multiple_of c.args.self.now.entries.items c.args.lo c.args.hi c.len-modulus.result c.min-number.result (cc)
    c.requires.indexed.some c.requires.ordered c.requires.indexed.from_zero c.min-number.ensures
    c.if-to_multiple-hi.true (c.in-None.ensures.none refl)

pub returns-in-None-2-clause-none : goal.returns-in-None-2-clause-none
returns-in-None-2-clause-none c none =
    nowhere_of c.args.self.now.entries.items c.args.lo c.args.hi c.len-modulus.result c.min-number.result (cc)
    c.requires.indexed.some c.requires.ordered c.min-number.ensures c.if-to_multiple-hi.false
    (c.in-None-2.ensures.none refl)
