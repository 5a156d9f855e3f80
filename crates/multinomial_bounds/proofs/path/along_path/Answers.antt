-- Each move is a step on the path from the mode to the counts, whose bound the definition gives.
use Rattle.std.proofs.Common.{◌<◌, ◌≤◌, length, get_or, arith, sym, ◌∙◌}
use Rattle.multinomial_bounds.specs.Bounds.{floor_of, ceiling_of}
use Rattle.multinomial_bounds.proofs.PathLemmas.{IsOnPath-start, bound_at-mode, step-path, step-left, step-bound, step-falls, sum-moved}
use Rattle.multinomial_bounds.proofs.path.along_path.Goals as goal

pub loop-from-init : goal.loop-from-init
loop-from-init c = record {
  same_atoms = c.requires.same_atoms;
  path = IsOnPath-start c.args.current.now c.args.counts.now;
  lo = sym (bound_at-mode floor_of c.args.weights.now c.args.current.now c.args.start.lo);
  hi = sym (bound_at-mode ceiling_of c.args.weights.now c.args.current.now c.args.start.hi);
}

pub move_down-enclosure-requires-clause-few_atoms : goal.move_down-enclosure-requires-clause-few_atoms
move_down-enclosure-requires-clause-few_atoms c = rw c.loop-from.invariant.same_atoms c.requires.few_atoms

pub move_down-enclosure-requires-clause-falls : goal.move_down-enclosure-requires-clause-falls
move_down-enclosure-requires-clause-falls c =
    let move = c.in-Some.ensures in
    step-falls c.args.weights.now c.args.current.now c.args.counts.now c.loop-from.current c.in-Some.from c.in-Some.to
    c.requires.is_mode c.loop-from.invariant.path move.2 move.3 (omega arith) (omega arith)

pub loop-from-smaller : goal.loop-from-smaller
loop-from-smaller c =
    let move = c.in-Some.ensures in
    omega (
      arith,
      step-left c.args.current.now c.args.counts.now c.loop-from.current c.in-Some.from c.in-Some.to
          c.loop-from.invariant.path move.2 move.3 (omega arith) move.4 move.5,
    )

pub loop-from-preserved : goal.loop-from-preserved
loop-from-preserved c =
    let move = c.in-Some.ensures in
    let within : c.in-Some.to < length c.loop-from.current = omega arith in
    let has : 1 ≤ get_or c.loop-from.current c.in-Some.from 0 = omega (arith, move.2) in
    record {
      same_atoms = sum-moved c.loop-from.current c.in-Some.from c.in-Some.to has within ∙ c.loop-from.invariant.same_atoms;
      path = step-path c.args.current.now c.args.counts.now c.loop-from.current c.in-Some.from c.in-Some.to
          c.loop-from.invariant.path move.2 move.3 within move.4 move.5;
      lo = rw (c.move_down-enclosure.ensures.lo, c.loop-from.invariant.lo)
          (sym (step-bound c.args.current.now c.args.counts.now c.loop-from.current c.in-Some.from c.in-Some.to
          c.loop-from.invariant.path move.2 move.3 within move.4 move.5 floor_of c.args.weights.now c.args.start.lo));
      hi = rw (c.move_down-enclosure.ensures.hi, c.loop-from.invariant.hi)
          (sym (step-bound c.args.current.now c.args.counts.now c.loop-from.current c.in-Some.from c.in-Some.to
          c.loop-from.invariant.path move.2 move.3 within move.4 move.5 ceiling_of c.args.weights.now c.args.start.hi));
    }

pub returns-clause-lo : goal.returns-clause-lo
returns-clause-lo c = rw c.in_default.ensures at c.loop-from.invariant.lo

pub returns-clause-hi : goal.returns-clause-hi
returns-clause-hi c = rw c.in_default.ensures at c.loop-from.invariant.hi
