use Rattle.std.proofs.Common.{[], ◌≡◌, ℕ, ◌+◌, ◌-◌, ◌≤◌, suc, length, length-drop, drop, get_or, refl, ap, subst, arith}
use Rattle.std.proofs.lemmas.List.{length-map, take_rest}
use Rattle.decompose.specs.Levels.{counts_of, limits_of, window_at}
use Rattle.decompose.specs.Probes.{scaled_at}
use Rattle.decompose.specs.Walk.{StandsAt}
use Rattle.decompose.specs.declared.levels.Level.{Level}
use Rattle.decompose.proofs.FirstOfSlice.{put_rest, put_rest_back}
use Rattle.decompose.proofs.ClimbedSteps.{climb_steps_on, climb_steps_found, climbed_all, found_after, room_at}
use Rattle.decompose.proofs.LevelsOfSymbols.{none_of}
use Rattle.decompose.proofs.ProbeSteps.{scaled_at_place, knows_at, no_level, no_symbol}
use Rattle.decompose.proofs.StridesOfSymbols.{strides_at}
use Rattle.decompose.proofs.WalkClimbs.{climb_finds, climb_on, climb_over, stands_within, window_ordered, count_below}
use Rattle.decompose.proofs.WalkClimbs.{counts_behind}
use Rattle.decompose.proofs.walk.find_next.Goals as goal

pub loop-place-init : goal.loop-place-init
loop-place-init g c = record {
  stands = c.requires.stands;
  in_range = stands_within c.args.symbols.now c.args.window c.args.levels.now c.args.depth c.requires.stands;
  not_above = omega arith;
  unchanged = refl;
  steps = λ most room. omega arith;
}

pub overflow_add-count : goal.overflow_add-count
overflow_add-count g c =
    let place : ℕ = c.loop-place.place - 1 in
    let d : Level = record { count = 0; left = record { lo = 0; hi = 0 } } in
    omega (
      arith,
      count_below c.args.symbols.now c.loop-place.levels place d (rw c.loop-place.invariant.unchanged c.requires.in_box)
          c.requires.symbols (omega (arith, c.loop-place.invariant.in_range)),
    )

pub find_below-requires-clause-ordered : goal.find_below-requires-clause-ordered
find_below-requires-clause-ordered g c =
    let place : ℕ = c.loop-place.place - 1 in
    let one_more : c.loop-place.place ≡ suc place = omega arith in
    let stands =
    subst (λ n. StandsAt c.args.symbols.now c.args.window c.loop-place.levels n) one_more c.loop-place.invariant.stands
    in
    rw c.window_at-left.ensures
    (window_ordered c.args.symbols.now c.args.window c.loop-place.levels place stands c.requires.ordered)

pub find_below-requires-clause-scaled : goal.find_below-requires-clause-scaled
find_below-requires-clause-scaled g c =
    let place : ℕ = c.loop-place.place - 1 in
    let one_more : c.loop-place.place ≡ suc place = omega arith in
    let stands =
    subst (λ n. StandsAt c.args.symbols.now c.args.window c.loop-place.levels n) one_more c.loop-place.invariant.stands
    in
    rw (take_rest c.args.symbols.now place, c.window_at-left.ensures)
    (λ many. rw (c.scaled_at-rest.ensures (omega (arith, simp length-drop at many)))
    (scaled_at_place c.args.symbols.now c.args.window c.args.scaled c.loop-place.levels place stands c.requires.scaled))

pub find_below-requires-clause-knows : goal.find_below-requires-clause-knows
find_below-requires-clause-knows g c =
    let place : ℕ = c.loop-place.place - 1 in
    rw (take_rest c.args.symbols.now place)
    (knows_at c.args.residues.now c.args.symbols.now place c.requires.knows)

pub find_below-requires-clause-strides : goal.find_below-requires-clause-strides
find_below-requires-clause-strides g c =
    let place : ℕ = c.loop-place.place - 1 in
    rw (take_rest c.args.symbols.now place)
    (strides_at c.args.symbols.now place c.args.strides.now c.requires.strides)

pub returns-then-find_below-clause-finds : goal.returns-then-find_below-clause-finds
returns-then-find_below-clause-finds g c =
    let place : ℕ = c.loop-place.place - 1 in
    let one_more : c.loop-place.place ≡ suc place = omega arith in
    let stands =
    subst (λ n. StandsAt c.args.symbols.now c.args.window c.loop-place.levels n) one_more c.loop-place.invariant.stands
    in
    let found = rw (take_rest c.args.symbols.now place, c.window_at-left.ensures) at c.if-find_below.ensures.finds in
    climb_finds c.args.symbols.now c.args.window c.args.levels.now c.loop-place.levels c.find_below.new.levels place _
    c.loop-place.invariant.unchanged stands c.requires.in_box found.0 found.1

pub loop-place-preserved-then-is_none : goal.loop-place-preserved-then-is_none
loop-place-preserved-then-is_none g c =
    let place : ℕ = c.loop-place.place - 1 in
    let one_more : c.loop-place.place ≡ suc place = omega arith in
    let stands =
    subst (λ n. StandsAt c.args.symbols.now c.args.window c.loop-place.levels n) one_more c.loop-place.invariant.stands
    in
    let over = none_of _ c.raised.result c.if-is_none.ensures c.raised.ensures in
    record {
      stands = climb_on c.args.symbols.now c.args.window c.args.levels.now c.loop-place.levels [] place no_level
          c.loop-place.invariant.unchanged stands c.requires.in_box
          (climb_over c.args.symbols.now c.args.window c.loop-place.levels place no_level no_symbol stands over);
      in_range = omega (arith, c.loop-place.invariant.in_range);
      not_above = omega (arith, c.loop-place.invariant.not_above);
      unchanged = c.loop-place.invariant.unchanged;
      steps = λ most room.
          climb_steps_on c.args.symbols.now c.args.window c.args.scaled c.loop-place.levels place c.args.depth most
          c.args.steps.now c.loop-place.steps c.loop-place.steps no_level stands c.requires.scaled room
          (omega (arith, c.loop-place.invariant.not_above)) (rw one_more at (c.loop-place.invariant.steps most room))
          (omega arith);
    }

pub loop-place-preserved : goal.loop-place-preserved
loop-place-preserved g c =
    let place : ℕ = c.loop-place.place - 1 in
    let one_more : c.loop-place.place ≡ suc place = omega arith in
    let stands =
    subst (λ n. StandsAt c.args.symbols.now c.args.window c.loop-place.levels n) one_more c.loop-place.invariant.stands
    in
    let none = rw (take_rest c.args.symbols.now place, c.window_at-left.ensures) at c.if-find_below.ensures.finds in
    rw (none.1, put_rest_back c.loop-place.levels place) record {
      stands = climb_on c.args.symbols.now c.args.window c.args.levels.now c.loop-place.levels c.find_below.new.levels
          place _ c.loop-place.invariant.unchanged stands c.requires.in_box none.0;
      in_range = omega (arith, c.loop-place.invariant.in_range);
      not_above = omega (arith, c.loop-place.invariant.not_above);
      unchanged = c.loop-place.invariant.unchanged;
      steps = λ most room.
          let before = rw one_more at (c.loop-place.invariant.steps most room) in
          let here =
          rw (take_rest c.args.symbols.now place) at c.if-find_below.ensures.steps in
          climb_steps_on c.args.symbols.now c.args.window c.args.scaled c.loop-place.levels place c.args.depth most
          c.args.steps.now c.loop-place.steps c.find_below.new.steps no_level stands c.requires.scaled room
          (omega (arith, c.loop-place.invariant.not_above)) before
          (here (scaled_at c.args.symbols.now c.loop-place.levels c.args.scaled place)
          (λ many. c.scaled_at-rest.ensures (omega (arith, simp length-drop at many))) most
          (room_at c.args.symbols.now c.args.scaled c.loop-place.levels place most room));
    }

pub returns-then-find_below-clause-steps : goal.returns-then-find_below-clause-steps
returns-then-find_below-clause-steps g c most room =
    let place : ℕ = c.loop-place.place - 1 in
    let one_more : c.loop-place.place ≡ suc place = omega arith in
    let symbols = c.args.symbols.now in
    let levels = c.loop-place.levels in
    let stands =
    subst (λ n. StandsAt c.args.symbols.now c.args.window c.loop-place.levels n) one_more c.loop-place.invariant.stands
    in
    let found = rw (take_rest symbols place, c.window_at-left.ensures) at c.if-find_below.ensures.finds in
    let before = rw one_more at (c.loop-place.invariant.steps most room) in
    let here = rw (take_rest symbols place) at c.if-find_below.ensures.steps in
    let depth = stands_within symbols c.args.window c.args.levels.now c.args.depth c.requires.stands in
    let some : 1 ≤ length (limits_of (drop place symbols)) =
    simp (length-map, length-drop)
    (omega (
      arith,
      c.loop-place.invariant.in_range,
      ap length c.loop-place.invariant.unchanged,
      c.requires.one_level_each,
    )) in
    rw (
      put_rest levels c.find_below.new.levels place,
      ← counts_behind levels c.find_below.new.levels place,
      ← c.loop-place.invariant.unchanged,
    )
    (climb_steps_found symbols c.args.window c.args.scaled levels place c.args.depth most
    c.args.steps.now c.loop-place.steps c.find_below.new.steps no_level stands c.requires.scaled room
    (omega (arith, c.loop-place.invariant.not_above)) before (counts_of c.find_below.new.levels)
    (omega (arith, depth, c.requires.one_level_each))
    (found_after (drop place symbols) (window_at c.args.window levels place) (get_or levels place no_level).count
    (counts_of c.find_below.new.levels) some found.0)
    (here (scaled_at symbols levels c.args.scaled place)
    (λ many. c.scaled_at-rest.ensures (omega (arith, simp length-drop at many))) most
    (room_at symbols c.args.scaled levels place most room)))

pub returns-clause-steps : goal.returns-clause-steps
returns-clause-steps g c most room =
    let none : c.loop-place.place ≡ 0 = omega (arith, c.loop-place-test.false) in
    let before = rw (none, c.loop-place.invariant.unchanged) at (c.loop-place.invariant.steps most room) in
    let depth = stands_within c.args.symbols.now c.args.window c.args.levels.now c.args.depth c.requires.stands in
    climbed_all (most + 1) (length c.args.symbols.now) (c.args.depth - 0) _ _ c.args.steps.now c.loop-place.steps
    (omega (arith, depth, c.requires.one_level_each)) (omega arith) before
