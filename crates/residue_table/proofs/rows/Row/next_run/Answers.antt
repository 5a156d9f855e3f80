use Rattle.std.proofs.Common.{◌≡◌, ◌+◌, ◌-◌, ◌/◌, ◌<◌, ◌≤◌, length, refl, arith}
use Rattle.std.proofs.lemmas.Simd.{length-chunk}
use Rattle.residue_table.proofs.RunMinima.{passed_runs, passed_groups}
use Rattle.residue_table.proofs.rows.Row.next_run.Goals as goal

pub returns-in_err-group-clause-none : goal.returns-in_err-group-clause-none
returns-in_err-group-clause-none c none k from to =
    let row = c.args.self.now in
    let stop = (c.args.end - 1) / 16 + 1 in
    passed_groups row.group_minima.items row.minima.items row.entries.items c.args.at c.loop-run.run
    ((stop - 1) / 16 + 1) stop c.args.highest c.requires.indexed.bounds c.requires.indexed.bounds_groups
    c.requires.indexed.runs c.loop-run.invariant.passed (c.in_err-group.ensures.none refl) (omega arith) k from
    (omega (arith, to)) (omega (arith, to, c.requires.within))

pub returns-in-Some-clause-passed : goal.returns-in-Some-clause-passed
returns-in-Some-clause-passed c k from to =
    let row = c.args.self.now in
    let minima = row.minima.items in
    let first = c.max-first.result in
    let number = c.min-next.result - first in
    let before = c.in-Some.before in
    let is : c.deref.result.now ≡ minima = c.deref.ensures.value in
    let group = c.in_ok-group.ensures.within in
    let ordered : first < c.min-next.result =
    omega (arith, c.max-first.ensures, c.min-next.ensures, group, c.loop-run-test.true) in
    let room : first + number ≤ length minima =
    omega (arith, ordered, c.requires.indexed.runs, c.requires.ordered, c.requires.within, c.min-next.ensures) in
    let found = rw is at c.in-Some.ensures.first in
    let few : before < number = omega (arith, found.within, length-chunk first number minima room) in
    let passed =
    passed_groups row.group_minima.items minima row.entries.items c.args.at c.loop-run.run c.in_ok-group.group first
    c.args.highest c.requires.indexed.bounds c.requires.indexed.bounds_groups c.requires.indexed.runs
    c.loop-run.invariant.passed c.in_ok-group.ensures.passed (omega (arith, c.max-first.ensures)) in
    passed_runs minima row.entries.items c.args.at first number before c.args.highest
    c.requires.indexed.bounds (omega (arith, few)) passed found.none_before k from
    (omega (arith, to)) (omega (arith, few, to, ordered, c.requires.within, c.min-next.ensures))

pub loop-run-preserved : goal.loop-run-preserved
loop-run-preserved c =
    let row = c.args.self.now in
    let minima = row.minima.items in
    let first = c.max-first.result in
    let number = c.min-next.result - first in
    let is : c.deref.result.now ≡ minima = c.deref.ensures.value in
    let group = c.in_ok-group.ensures.within in
    let ordered : first < c.min-next.result =
    omega (arith, c.max-first.ensures, c.min-next.ensures, group, c.loop-run-test.true) in
    let room : first + number ≤ length minima =
    omega (arith, ordered, c.requires.indexed.runs, c.requires.ordered, c.requires.within, c.min-next.ensures) in
    let all = rw is at (c.in-None.ensures.none.0 refl) in
    let passed =
    passed_groups row.group_minima.items minima row.entries.items c.args.at c.loop-run.run c.in_ok-group.group first
    c.args.highest c.requires.indexed.bounds c.requires.indexed.bounds_groups c.requires.indexed.runs
    c.loop-run.invariant.passed c.in_ok-group.ensures.passed (omega (arith, c.max-first.ensures)) in
    record {
      from_first = omega (arith, c.loop-run.invariant.from_first, ordered, c.max-first.ensures);
      to_stop = omega (arith, c.min-next.ensures);
      passed = λ k from to within.
          passed_runs minima row.entries.items c.args.at first number number c.args.highest c.requires.indexed.bounds
          (omega arith) passed
          (λ j less. all j (omega (arith, less, length-chunk first number minima room))) k from
          (omega (arith, to, ordered)) within;
    }
