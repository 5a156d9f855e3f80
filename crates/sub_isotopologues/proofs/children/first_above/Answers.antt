-- The first place above is the first that the loop finds.
use Rattle.std.proofs.Common.{sym, arith}
use Rattle.multinomial_bounds.proofs.PathLemmas.{first_above_is}
use Rattle.isotopologue_list.proofs.ParentLemmas.{first_above-nowhere}
use Rattle.sub_isotopologues.proofs.children.first_above.Goals as goal

pub returns-then-fewer-place : goal.returns-then-fewer-place
returns-then-fewer-place c =
    sym (first_above_is c.args.fewer.now c.args.more.now c.loop-place.place c.if-fewer-place.true
    c.loop-place.invariant)

pub returns : goal.returns
returns c =
    sym (first_above-nowhere c.args.fewer.now c.args.more.now (λ k within. c.loop-place.invariant k (omega arith)))
