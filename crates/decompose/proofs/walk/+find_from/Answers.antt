use Rattle.std.proofs.Common.{◌≡◌, ◌<◌, length, suc, refl, sym, ◌∙◌, ap, true, false, None, inl, inr, length-take, length-drop, arith, rules}
use Rattle.std.specs.List.{find}
use Rattle.decompose.specs.CountLists.{box_of}
use Rattle.decompose.specs.Search.{is_left}
use Rattle.decompose.specs.Levels.{masses_of, limits_of}
use Rattle.decompose.proofs.ChargedSteps.{count_done, count_found, counts_done, found_in}
use Rattle.decompose.proofs.CountedLists.{room_below}
use Rattle.decompose.proofs.FirstOfSlice.{put_first, put_back}
use Rattle.decompose.proofs.ProbeSteps.{no_symbol, knows_below, scaled_below, none_without, less_more, scaled_fits, level_fits}
use Rattle.decompose.proofs.StridesOfSymbols.{strides_below}
use Rattle.decompose.proofs.WalkSteps.{walk_begins_not, walk_finds, walk_goes_on, walk_ends}
use Rattle.decompose.proofs.WalkSteps.{level_ordered, empty_found, first_is, first_is_none, pair_finds}
use Rattle.decompose.proofs.walk.+find_from.Goals.{else-may_fill-via-then-may_fill+else-find_from}
use Rattle.decompose.proofs.walk.+find_from.Goals.{else-may_fill-via-else-may_fill, in-len2, in_default-below-2}
use Rattle.decompose.proofs.walk.+find_from.Goals as goal

pub returns-in_default-clause-finds : goal.returns-in_default-clause-finds
returns-in_default-clause-finds g t c =
    empty_found c.args.symbols.now c.args.count c.args.window c.args.levels.now c.in_default.ensures.cases
    c.requires.one_level_each c.requires.ordered

pub returns-in_default-level_at-clause-finds : goal.returns-in_default-level_at-clause-finds
returns-in_default-level_at-clause-finds g t c =
    rw c.in-Some.ensures.cases.0 (
      walk_begins_not c.in-Some.symbol.now c.in-Some.below.now c.args.count c.args.window
          c.in_default-level_at.ensures,
      refl,
    )

pub overflow_mul-from : goal.overflow_mul-from
overflow_mul-from g t c =
    let symbols = rw c.in-Some.ensures.cases.0 at c.requires.symbols in
    omega (
      arith,
      scaled_fits c.in-Some.symbol.now c.from.result (symbols 0 c.in-Some.symbol.now (omega arith))
          (omega (arith, c.from.ensures, c.in-Some-level_at.ensures.0, c.in-Some-level_at.ensures.1)),
    )

pub may_fill-requires-clause-knows : goal.may_fill-requires-clause-knows
may_fill-requires-clause-knows g t c =
    knows_below c.args.residues.now c.in-Some.symbol.now c.in-Some.below.now
    (rw c.in-Some.ensures.cases.0 at c.requires.knows)

pub find_from-requires : goal.find_from-requires
find_from-requires g t c =
    let symbols = rw c.in-Some.ensures.cases.0 at c.requires.symbols in
    let level = c.counts.invariant.reaches.is_level in
    let scaled =
    scaled_below c.in-Some.symbol.now c.in-Some.below.now c.args.window c.args.scaled c.counts.rest c.counts.level
    (rw c.in-Some.ensures.cases.0 at c.requires.scaled) level c.counts.invariant.rest in
    let knows =
    knows_below c.args.residues.now c.in-Some.symbol.now c.in-Some.below.now
    (rw c.in-Some.ensures.cases.0 at c.requires.knows) in
    let strides =
    strides_below c.in-Some.symbol.now c.in-Some.below.now c.args.strides.now
    (rw c.in-Some.ensures.cases.0 at c.requires.strides) in
    let ordered =
    level_ordered c.in-Some.symbol.now.mass c.args.window c.counts.level level c.requires.ordered in
    λ κs l. (
      search rules,
      (
        search rules,
        (search rules, ((λ k d h. symbols (suc k) d (omega arith)), (ordered, (scaled, (knows, strides))))),
      ),
    )

pub returns-then-find_from-clause-finds : goal.returns-then-find_from-clause-finds
returns-then-find_from-clause-finds g t c =
    let reaches = c.counts.invariant.reaches in
    let some : 0 < length c.counts.levels =
    omega (arith, c.in-Some.ensures.cases.1, c.requires.one_level_each, ap length c.counts.invariant.unchanged) in
    elim c.if-below-lt2-2.branch [
      | in-len2 v ↦
          let found =
          first_is c.in-Some.below.now c.first_low-low.result c.counts.level.left v.find_in_pair-in-len2.result _
          v.find_in_pair-in-len2.new.levels c.first_low-low.ensures
          (pair_finds c.in-Some.below.now no_symbol no_symbol c.first_low-low.result c.counts.level.left
          v.find_in_pair-in-len2.result _ v.find_in_pair-in-len2.new.levels (omega arith) v.find_in_pair-in-len2.ensures)
          (sym v.value-is ∙ c.if-find_from.true) in
          rw (
            v.levels-is,
            put_first c.counts.levels v.find_in_pair-in-len2.new.levels c.counts.level
                (omega (arith, simp (length-take, length-drop) at v.find_in_pair-in-len2.auto.levels)) some,
            c.in-Some.ensures.cases.0,
          ) (
            walk_finds c.in-Some.symbol.now c.in-Some.below.now c.args.count c.args.window c.counts.level reaches _
                found.0,
            (reaches.is_level, found.1),
          )
      | in_default-below-2 v ↦
          let found =
          first_is c.in-Some.below.now c.first_low-low.result c.counts.level.left v.find_from.result _
          v.find_from.new.levels c.first_low-low.ensures v.find_from.ensures.finds (sym v.value-is ∙ c.if-find_from.true) in
          rw (
            v.levels-is,
            put_first c.counts.levels v.find_from.new.levels c.counts.level
                (omega (arith, simp (length-take, length-drop) at v.find_from.auto.levels)) some,
            c.in-Some.ensures.cases.0,
          ) (
            walk_finds c.in-Some.symbol.now c.in-Some.below.now c.args.count c.args.window c.counts.level reaches _
                found.0,
            (reaches.is_level, found.1),
          )
    ]

pub returns-in_default-raised-clause-finds : goal.returns-in_default-raised-clause-finds
returns-in_default-raised-clause-finds g t c =
    let reaches = c.counts.invariant.reaches in
    let below =
    scaled_below c.in-Some.symbol.now c.in-Some.below.now c.args.window c.args.scaled c.counts.rest c.counts.level
    (rw c.in-Some.ensures.cases.0 at c.requires.scaled) reaches.is_level c.counts.invariant.rest in
    let none : (find (is_left (masses_of c.in-Some.below.now) c.counts.level.left None)
    (box_of (limits_of c.in-Some.below.now)) ≡ None) × (c.else-may_fill.levels ≡ c.counts.levels) =
    elim c.else-may_fill.branch [
      | else-may_fill-via-then-may_fill+else-find_from w ↦ elim w.if-below-lt2-2.branch [
        | in-len2 v ↦
            let none_found =
            first_is_none c.in-Some.below.now c.first_low-low.result c.counts.level.left v.find_in_pair-in-len2.result _
            v.find_in_pair-in-len2.new.levels c.first_low-low.ensures
            (pair_finds c.in-Some.below.now no_symbol no_symbol c.first_low-low.result c.counts.level.left
            v.find_in_pair-in-len2.result _ v.find_in_pair-in-len2.new.levels (omega arith) v.find_in_pair-in-len2.ensures)
            (sym v.value-is ∙ w.if-find_from.false) in
            (none_found.0, w.levels-is ∙ v.levels-is ∙ rw none_found.1 (put_back c.counts.levels))
        | in_default-below-2 v ↦
            let none_found =
            first_is_none c.in-Some.below.now c.first_low-low.result c.counts.level.left v.find_from.result _
            v.find_from.new.levels c.first_low-low.ensures v.find_from.ensures.finds (sym v.value-is ∙ w.if-find_from.false) in
            (none_found.0, w.levels-is ∙ v.levels-is ∙ rw none_found.1 (put_back c.counts.levels))
      ]
      | else-may_fill-via-else-may_fill w ↦ (
        none_without c.in-Some.below.now c.counts.level.left c.counts.rest (limits_of c.in-Some.below.now) below
            w.if-may_fill.ensures.unfilled,
        w.levels-is,
      )
    ] in
    rw c.in-Some.ensures.cases.0 (
      walk_ends c.in-Some.symbol.now c.in-Some.below.now c.args.count c.args.window c.counts.level reaches none.0
          c.in_default-raised.ensures,
      none.1 ∙ c.counts.invariant.unchanged,
    )

pub counts-preserved : goal.counts-preserved
counts-preserved g t c =
    let reaches = c.counts.invariant.reaches in
    let below =
    scaled_below c.in-Some.symbol.now c.in-Some.below.now c.args.window c.args.scaled c.counts.rest c.counts.level
    (rw c.in-Some.ensures.cases.0 at c.requires.scaled) reaches.is_level c.counts.invariant.rest in
    let none : (find (is_left (masses_of c.in-Some.below.now) c.counts.level.left None)
    (box_of (limits_of c.in-Some.below.now)) ≡ None) × (c.else-may_fill.levels ≡ c.counts.levels) =
    elim c.else-may_fill.branch [
      | else-may_fill-via-then-may_fill+else-find_from w ↦ elim w.if-below-lt2-2.branch [
        | in-len2 v ↦
            let none_found =
            first_is_none c.in-Some.below.now c.first_low-low.result c.counts.level.left v.find_in_pair-in-len2.result _
            v.find_in_pair-in-len2.new.levels c.first_low-low.ensures
            (pair_finds c.in-Some.below.now no_symbol no_symbol c.first_low-low.result c.counts.level.left
            v.find_in_pair-in-len2.result _ v.find_in_pair-in-len2.new.levels (omega arith) v.find_in_pair-in-len2.ensures)
            (sym v.value-is ∙ w.if-find_from.false) in
            (none_found.0, w.levels-is ∙ v.levels-is ∙ rw none_found.1 (put_back c.counts.levels))
        | in_default-below-2 v ↦
            let none_found =
            first_is_none c.in-Some.below.now c.first_low-low.result c.counts.level.left v.find_from.result _
            v.find_from.new.levels c.first_low-low.ensures v.find_from.ensures.finds (sym v.value-is ∙ w.if-find_from.false) in
            (none_found.0, w.levels-is ∙ v.levels-is ∙ rw none_found.1 (put_back c.counts.levels))
      ]
      | else-may_fill-via-else-may_fill w ↦ (
        none_without c.in-Some.below.now c.counts.level.left c.counts.rest (limits_of c.in-Some.below.now) below
            w.if-may_fill.ensures.unfilled,
        w.levels-is,
      )
    ] in
    record {
      reaches = walk_goes_on c.in-Some.symbol.now c.in-Some.below.now c.args.count c.args.window c.counts.level reaches
          none.0 c.in-Some-raised.raised c.in-Some-raised.ensures;
      rest = rw c.in-Some-raised.ensures.0
          (c.window_less-rest-in-counts.ensures
          ∙ less_more c.args.scaled c.counts.rest c.counts.level.count c.in-Some.symbol.now.scaled
          c.counts.invariant.rest);
      unchanged = none.1 ∙ c.counts.invariant.unchanged;
      steps = λ most room. rw c.in-Some-raised.ensures.0
          (count_done c.in-Some.symbol.now c.in-Some.below.now c.args.scaled most room c.args.count c.counts.level.count
          c.args.steps.now c.counts.steps c.may_fill.new.steps c.else-may_fill.steps c.first_low-low.result
          reaches.searched.low (c.counts.invariant.steps most room) c.may_fill.ensures.one_step
          (elim c.else-may_fill.branch [
            | else-may_fill-via-then-may_fill+else-find_from w ↦ elim w.if-below-lt2-2.branch [
              | in-len2 v ↦ inl (w.steps-is ∙ v.steps-is)
              | in_default-below-2 v ↦
                  let none : v.find_from.result ≡ false = sym v.value-is ∙ w.if-find_from.false in
                  let here : c.else-may_fill.steps ≡ v.find_from.new.steps = w.steps-is ∙ v.steps-is in
                  let below_steps = rw (c.counts.invariant.rest, none, ← here) at v.find_from.ensures.steps in
                  inr (
                    below_steps most
                        (room_below c.in-Some.below.now c.args.scaled.hi _ most (omega arith) room.1),
                    rw c.counts.invariant.rest at w.if-may_fill.ensures.filled,
                  )
            ]
            | else-may_fill-via-else-may_fill w ↦ inl w.steps-is
          ]));
    }

pub returns-then-find_from-clause-steps : goal.returns-then-find_from-clause-steps
returns-then-find_from-clause-steps g t c most room =
    let s = c.in-Some.symbol.now in
    let ss = c.in-Some.below.now in
    let reaches = c.counts.invariant.reaches in
    let room_here = rw c.in-Some.ensures.cases.0 at room in
    let below =
    scaled_below s ss c.args.window c.args.scaled c.counts.rest c.counts.level
    (rw c.in-Some.ensures.cases.0 at c.requires.scaled) reaches.is_level c.counts.invariant.rest in
    let fits =
    level_fits s ss c.args.window c.args.scaled c.counts.level (rw c.in-Some.ensures.cases.0 at c.requires.scaled)
    reaches.is_level in
    let room_below_here =
    room_below ss c.args.scaled.hi c.counts.rest.hi most (rw c.counts.invariant.rest (omega arith)) room_here.1 in
    let some : 0 < length c.counts.levels =
    omega (arith, c.in-Some.ensures.cases.1, c.requires.one_level_each, ap length c.counts.invariant.unchanged) in
    elim c.if-below-lt2-2.branch [
      | in-len2 v ↦
          let found =
          first_is c.in-Some.below.now c.first_low-low.result c.counts.level.left v.find_in_pair-in-len2.result _
          v.find_in_pair-in-len2.new.levels c.first_low-low.ensures
          (pair_finds c.in-Some.below.now no_symbol no_symbol c.first_low-low.result c.counts.level.left
          v.find_in_pair-in-len2.result _ v.find_in_pair-in-len2.new.levels (omega arith) v.find_in_pair-in-len2.ensures)
          (sym v.value-is ∙ c.if-find_from.true) in
          let number = found_in ss c.counts.level.left c.counts.rest most _ below room_below_here found.0 in
          rw (
            v.levels-is,
            v.steps-is,
            put_first c.counts.levels v.find_in_pair-in-len2.new.levels c.counts.level
                (omega (arith, simp (length-take, length-drop) at v.find_in_pair-in-len2.auto.levels)) some,
            c.in-Some.ensures.cases.0,
          ) (
          count_found s ss c.args.scaled most room_here c.args.count c.counts.level.count c.args.steps.now
          c.counts.steps c.may_fill.new.steps c.may_fill.new.steps c.first_low-low.result reaches.searched.low
          (c.counts.invariant.steps most room_here) c.may_fill.ensures.one_step _ fits
          (omega arith)
          (rw c.counts.invariant.rest at number)
          )
      | in_default-below-2 v ↦
          let found =
          first_is c.in-Some.below.now c.first_low-low.result c.counts.level.left v.find_from.result _
          v.find_from.new.levels c.first_low-low.ensures v.find_from.ensures.finds (sym v.value-is ∙ c.if-find_from.true) in
          let number = found_in ss c.counts.level.left c.counts.rest most _ below room_below_here found.0 in
          let yes : v.find_from.result ≡ true = sym v.value-is ∙ c.if-find_from.true in
          let below_steps = rw yes at v.find_from.ensures.steps in
          rw (
            v.levels-is,
            v.steps-is,
            put_first c.counts.levels v.find_from.new.levels c.counts.level
                (omega (arith, simp (length-take, length-drop) at v.find_from.auto.levels)) some,
            c.in-Some.ensures.cases.0,
          ) (
          count_found s ss c.args.scaled most room_here c.args.count c.counts.level.count c.args.steps.now
          c.counts.steps c.may_fill.new.steps v.find_from.new.steps c.first_low-low.result reaches.searched.low
          (c.counts.invariant.steps most room_here) c.may_fill.ensures.one_step _ fits
          (rw c.counts.invariant.rest at (below_steps most room_below_here))
          (rw c.counts.invariant.rest at number)
          )
    ]

pub returns-in_default-raised-clause-steps : goal.returns-in_default-raised-clause-steps
returns-in_default-raised-clause-steps g t c most room =
    let s = c.in-Some.symbol.now in
    let ss = c.in-Some.below.now in
    let reaches = c.counts.invariant.reaches in
    let room_here = rw c.in-Some.ensures.cases.0 at room in
    let fits =
    level_fits s ss c.args.window c.args.scaled c.counts.level (rw c.in-Some.ensures.cases.0 at c.requires.scaled)
    reaches.is_level in
    let done =
    count_done s ss c.args.scaled most room_here c.args.count c.counts.level.count
    c.args.steps.now c.counts.steps c.may_fill.new.steps c.else-may_fill.steps c.first_low-low.result
    reaches.searched.low (c.counts.invariant.steps most room_here) c.may_fill.ensures.one_step
    (elim c.else-may_fill.branch [
      | else-may_fill-via-then-may_fill+else-find_from w ↦ elim w.if-below-lt2-2.branch [
        | in-len2 v ↦ inl (w.steps-is ∙ v.steps-is)
        | in_default-below-2 v ↦
            let none : v.find_from.result ≡ false = sym v.value-is ∙ w.if-find_from.false in
            let here : c.else-may_fill.steps ≡ v.find_from.new.steps = w.steps-is ∙ v.steps-is in
            let below_steps = rw (c.counts.invariant.rest, none, ← here) at v.find_from.ensures.steps in
            inr (
              below_steps most
                  (room_below c.in-Some.below.now c.args.scaled.hi _ most (omega arith) room_here.1),
              rw c.counts.invariant.rest at w.if-may_fill.ensures.filled,
            )
      ]
      | else-may_fill-via-else-may_fill w ↦ inl w.steps-is
    ]) in
    rw c.in-Some.ensures.cases.0
    (counts_done s ss c.args.scaled most room_here c.args.count c.counts.level.count c.args.steps.now
    c.else-may_fill.steps reaches.searched.low fits done)
