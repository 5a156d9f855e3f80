use Rattle.std.proofs.Common.{◌≡◌, ◌<◌, arith, length, sym}
use Rattle.multinomial_bounds.proofs.ModeLemmas.{BestBelow-one, BestBelow-better, BestBelow-same, next_isotope_is}
use Rattle.multinomial_bounds.proofs.mode.next_isotope.Goals as goal
use Rattle.multinomial_bounds.proofs.mode.next_isotope.Goals.{then-here-there, else-here-there}

pub loop-i-init : goal.loop-i-init
loop-i-init c = BestBelow-one c.args.weights.now c.args.counts.now

pub loop-i-preserved : goal.loop-i-preserved
loop-i-preserved c =
    elim c.if-here-there.branch [
      | then-here-there w ↦
          let more = rw (c.from.ensures, c.from-in-loop-i.ensures, c.from-in-loop-i-2.ensures, c.from-in-loop-i-3.ensures) at w.if-here-there.true in
          rw w.best-is
          (BestBelow-better c.args.weights.now c.args.counts.now c.loop-i.i c.loop-i.best c.loop-i.invariant more)
      | else-here-there w ↦
          let less = rw (c.from.ensures, c.from-in-loop-i.ensures, c.from-in-loop-i-2.ensures, c.from-in-loop-i-3.ensures) at w.if-here-there.false in
          rw w.best-is
          (BestBelow-same c.args.weights.now c.args.counts.now c.loop-i.i c.loop-i.best c.loop-i.invariant less)
    ]

pub returns-clause-value : goal.returns-clause-value
returns-clause-value c =
    let e : c.loop-i.i ≡ length c.args.weights.now = omega arith in
    sym (next_isotope_is c.args.weights.now c.args.counts.now c.loop-i.best (rw e at c.loop-i.invariant))

pub returns-clause-within : goal.returns-clause-within
returns-clause-within c =
    let inside : c.loop-i.best < c.loop-i.i = c.loop-i.invariant.within in
    omega arith
