use Rattle.std.proofs.Common.{◌≡◌, ◌+◌, ◌*◌, ◌-◌, ◌<◌, ◌≤◌, length, ◌++◌, [], ◌∷◌, rules, arith}
use Rattle.std.proofs.lemmas.Simd.{length-chunk}
use Rattle.residue_table.proofs.RunMinima.{pushed_bounds}
use Rattle.residue_table.proofs.RunSpans.{push_minimum}
use Rattle.residue_table.proofs.rows.minima_of.Goals as goal

pub loop-run-preserved : goal.loop-run-preserved
loop-run-preserved c =
    let entries = c.args.numbers.now in
    let run = c.loop-run.run in
    let stop = c.min-stop.result in
    let is : c.push.new.self.items ≡ c.loop-run.minima.items ++ c.least_of.result ∷ [] = search rules in
    let some : run * 16 < length entries =
    omega (arith, c.loop-run.auto.run-end, c.div_ceil-run-end.ensures, c.loop-run-test.true) in
    let room : run * 16 + (stop - run * 16) ≤ length entries = omega (arith, some, c.min-stop.ensures) in
    let number = length-chunk (run * 16) (stop - run * 16) entries room in
    let one = c.least_of.ensures.one (omega (arith, number, some, c.min-stop.ensures)) in
    record {
      one_each = search rules;
      bounds = rw is
          (pushed_bounds c.loop-run.minima.items entries c.least_of.result run stop c.loop-run.invariant.one_each
          c.min-stop.ensures c.loop-run.invariant.bounds
          (λ j less.
          c.least_of.ensures.least j (omega (arith, less, number))));
      least = rw is
          (push_minimum c.loop-run.minima.items entries c.least_of.result run stop c.loop-run.invariant.one_each
          c.min-stop.ensures some c.loop-run.invariant.least
          (λ j less. c.least_of.ensures.least j (omega (arith, less, number)))
          (one.0, omega (arith, one.1, number), one.2));
    }
