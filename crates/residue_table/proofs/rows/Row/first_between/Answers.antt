use Rattle.std.proofs.Common.{◌≡◌, ◌+◌, ◌-◌, ◌<◌, ◌≤◌, ℕ, length, refl, subst, arith}
use Rattle.std.proofs.lemmas.Simd.{length-chunk}
use Rattle.residue_table.specs.Rows.{NoneReached}
use Rattle.residue_table.proofs.RunMinima.{in_part, none_until}
use Rattle.residue_table.proofs.rows.Row.first_between.Goals as goal

pub returns-in-Some-clause-first : goal.returns-in-Some-clause-first
returns-in-Some-clause-first c =
    let entries = c.args.self.now.entries.items in
    let first = c.max-first.result in
    let number = c.min-stop.result - first in
    let before = c.in-Some.before in
    let is : c.deref.result.now ≡ entries = c.deref.ensures.value in
    let inv = c.loop-at.invariant in
    let run = c.in_ok-run.ensures in
    let ordered : first < c.min-stop.result =
    omega (arith, c.max-first.ensures, c.min-stop.ensures, run.not_before, run.not_after, c.loop-at-test.true) in
    let room : first + number ≤ length entries = omega (arith, c.min-stop.ensures, c.requires.within) in
    let found = rw is at c.in-Some.ensures.first in
    let few : before < number = omega (arith, found.within, length-chunk first number entries room) in
    let reached = rw (in_part entries first number before few) at found.reached in
    record {
      from_start = omega (arith, c.max-first.ensures, inv.from_start);
      to_end = omega (arith, few, c.min-stop.ensures);
      reached = omega (arith, reached, c.max-first.ensures, inv.from_start);
      none_before = none_until entries c.args.start c.args.end c.args.from c.loop-at.at first number before
          (c.args.from + (c.args.end - c.args.start)) inv.from_start (omega (arith, c.max-first.ensures))
          (omega (arith, ordered, c.min-stop.ensures)) refl (omega (arith, few)) inv.none_before
          (λ k from to. run.passed k from (omega (arith, c.max-first.ensures))) found.none_before;
    }

pub loop-at-preserved : goal.loop-at-preserved
loop-at-preserved c =
    let entries = c.args.self.now.entries.items in
    let first = c.max-first.result in
    let number = c.min-stop.result - first in
    let is : c.deref.result.now ≡ entries = c.deref.ensures.value in
    let inv = c.loop-at.invariant in
    let run = c.in_ok-run.ensures in
    let ordered : first < c.min-stop.result =
    omega (arith, c.max-first.ensures, c.min-stop.ensures, run.not_before, run.not_after, c.loop-at-test.true) in
    let room : first + number ≤ length entries = omega (arith, c.min-stop.ensures, c.requires.within) in
    let all = rw is at (c.in-None.ensures.none.0 refl) in
    let stop : first + number ≡ c.min-stop.result = omega (arith, ordered) in
    record {
      from_start = omega (arith, ordered, c.max-first.ensures, inv.from_start);
      to_end = omega (arith, c.min-stop.ensures);
      none_before = subst (λ (z : ℕ). NoneReached entries c.args.start z c.args.from) stop
          (none_until entries c.args.start c.args.end c.args.from c.loop-at.at first number number
          (c.args.from + (c.args.end - c.args.start)) inv.from_start (omega (arith, c.max-first.ensures))
          (omega (arith, ordered, c.min-stop.ensures)) refl (omega arith) inv.none_before
          (λ k from to. run.passed k from (omega (arith, c.max-first.ensures)))
          (λ j less. all j (omega (arith, length-chunk first number entries room))));
    }
