use Rattle.std.proofs.Common.{length, ap, ◌∙◌, Some, None}
use Rattle.decompose.specs.Levels.{counts_of, limits_of}
use Rattle.decompose.proofs.FirstOfSlice.{written}
use Rattle.decompose.proofs.WalkBounds.{steps_now, no_steps_now, some_symbol}
use Rattle.decompose.proofs.WalkKept.{IsWalk-finds, finds_next, IsWalk-ends, ends_here, knows_all}
use Rattle.decompose.proofs.enumerate.Decomps.walk_on.Goals as goal

pub invariant_of-self : goal.invariant_of-self
invariant_of-self g c =
    let found = rw (c.deref.ensures.value, c.deref_mut.ensures.value) at c.if-find_left.ensures.finds in (
      IsWalk-finds c.self.inside.tables.now c.self.inside.symbols.items c.self.inside.window c.self.inside.scaled
          c.self.inside.levels.items c.find_left.new.levels c.self.inside.stands c.self.inside.levels.len
          c.args.self.now c.self.invariant.0 c.self.view_is c.self.inside.levels.ok.0
          (c.find_left.auto.levels ∙ ap length c.deref_mut.ensures.value) found.0 found.1 c.len.result c.len.ensures,
      c.self.invariant.1,
    )

pub returns-then-find_left-clause-walks : goal.returns-then-find_left-clause-walks
returns-then-find_left-clause-walks g c =
    let found = rw (c.deref.ensures.value, c.deref_mut.ensures.value) at c.if-find_left.ensures.finds in
    finds_next c.self.inside.tables.now c.self.inside.symbols.items c.self.inside.window c.self.inside.scaled
    c.self.inside.levels.items
    c.find_left.new.levels c.self.inside.stands c.self.inside.levels.len c.args.self.now c.self.invariant.0 c.self.view_is
    c.self.inside.levels.ok.0 (c.find_left.auto.levels ∙ ap length c.deref_mut.ensures.value) found.0 found.1

pub invariant_of-self-2 : goal.invariant_of-self-2
invariant_of-self-2 g c =
    let none = rw (c.deref.ensures.value, c.deref_mut.ensures.value) at c.if-find_left.ensures.finds in
    rw c.and-self-inside.ensures (
      IsWalk-ends c.self.inside.tables.now c.self.inside.symbols.items c.self.inside.window c.self.inside.scaled
          c.self.inside.levels.items c.find_left.new.levels c.self.inside.stands c.self.inside.levels.len
          c.args.self.now c.self.invariant.0 c.self.view_is c.self.inside.levels.ok.0
          (c.find_left.auto.levels ∙ ap length c.deref_mut.ensures.value) none.0 none.1,
      c.self.invariant.1,
    )

pub returns-clause-walks : goal.returns-clause-walks
returns-clause-walks g c =
    let none = rw (c.deref.ensures.value, c.deref_mut.ensures.value) at c.if-find_left.ensures.finds in
    rw c.and-self-inside.ensures
    (ends_here c.self.inside.tables.now c.self.inside.symbols.items c.self.inside.window c.self.inside.scaled
    c.self.inside.levels.items
    c.find_left.new.levels c.self.inside.stands c.self.inside.levels.len c.args.self.now c.self.invariant.0 c.self.view_is
    c.self.inside.levels.ok.0 (c.find_left.auto.levels ∙ ap length c.deref_mut.ensures.value) none.0 none.1)

pub find_left-requires-clause-knows : goal.find_left-requires-clause-knows
find_left-requires-clause-knows g c =
    rw c.deref.ensures.value
    (knows_all c.tables.inside.masses.items c.tables.inside.scale c.tables.inside.residues c.self.inside.symbols.items
    c.tables.invariant (rw c.tables.view_is c.self.invariant.0.scaled_are))

pub returns-then-find_left-clause-steps : goal.returns-then-find_left-clause-steps
returns-then-find_left-clause-steps g c scaled is =
    rw (written c.find_left.new.levels c.self.inside.levels.items c.self.inside.levels.len c.self.inside.levels.ok.0
    (c.find_left.auto.levels ∙ ap length c.deref_mut.ensures.value))
    (steps_now c.self.inside.tables.now c.self.inside.symbols.items c.self.inside.window c.self.inside.levels.items
    c.self.inside.stands c.tables.inside.scale c.tables.inside.residues (rw c.tables.view_is at c.tables.invariant)
    c.args.steps.now c.find_left.new.steps (Some (counts_of c.find_left.new.levels))
    (limits_of c.self.inside.symbols.items) c.args.self.now c.self.view_is c.self.inside.scaled c.self.invariant.0
    (rw (c.deref.ensures.value, c.deref_mut.ensures.value) at c.if-find_left.ensures.steps) scaled is)

pub returns-clause-steps : goal.returns-clause-steps
returns-clause-steps g c scaled is =
    steps_now c.self.inside.tables.now c.self.inside.symbols.items c.self.inside.window c.self.inside.levels.items
    c.self.inside.stands c.tables.inside.scale c.tables.inside.residues (rw c.tables.view_is at c.tables.invariant)
    c.args.steps.now c.find_left.new.steps None
    (limits_of c.self.inside.symbols.items) c.args.self.now c.self.view_is c.self.inside.scaled c.self.invariant.0
    (rw (c.deref.ensures.value, c.deref_mut.ensures.value) at c.if-find_left.ensures.steps) scaled is

pub returns-then-find_left-clause-no_steps : goal.returns-then-find_left-clause-no_steps
returns-then-find_left-clause-no_steps g c none =
    no_steps_now c.self.inside.tables.now c.self.inside.symbols.items c.self.inside.window c.self.inside.levels.items
    c.self.inside.stands c.tables.inside.scale c.tables.inside.residues (rw c.tables.view_is at c.tables.invariant)
    c.args.steps.now c.find_left.new.steps (Some (counts_of c.find_left.new.levels))
    (limits_of c.self.inside.symbols.items) c.args.self.now c.self.view_is c.self.inside.scaled c.self.invariant.0
    (rw (c.deref.ensures.value, c.deref_mut.ensures.value) at c.if-find_left.ensures.steps) none

pub returns-clause-no_steps : goal.returns-clause-no_steps
returns-clause-no_steps g c none =
    no_steps_now c.self.inside.tables.now c.self.inside.symbols.items c.self.inside.window c.self.inside.levels.items
    c.self.inside.stands c.tables.inside.scale c.tables.inside.residues (rw c.tables.view_is at c.tables.invariant)
    c.args.steps.now c.find_left.new.steps None
    (limits_of c.self.inside.symbols.items) c.args.self.now c.self.view_is c.self.inside.scaled c.self.invariant.0
    (rw (c.deref.ensures.value, c.deref_mut.ensures.value) at c.if-find_left.ensures.steps) none

pub find_left-requires-clause-some : goal.find_left-requires-clause-some
find_left-requires-clause-some g c =
    rw c.deref.ensures.value
    (some_symbol c.tables.inside.masses.items c.tables.inside.scale c.tables.inside.residues
    c.self.inside.symbols.items c.tables.invariant (rw c.tables.view_is c.self.invariant.0.masses_are))
