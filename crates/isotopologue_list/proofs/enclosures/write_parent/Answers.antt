-- The two places are those of the move back to the parent.
use Rattle.std.proofs.Common.{◌≢◌, ◌-◌, ◌<◌, length, get_or, sym, ◌∙◌, ap, arith, length-set, get_or-set_other}
use Rattle.multinomial_bounds.specs.Path.{first_above, parent_of, atoms_above}
use Rattle.multinomial_bounds.proofs.PathLemmas.{IsParentMove}
use Rattle.isotopologue_list.proofs.ParentLemmas.{parent_move}
use Rattle.isotopologue_list.proofs.enclosures.write_parent.Goals as goal
use Rattle.isotopologue_list.proofs.enclosures.write_parent.Goals.{After-copy_from_slice}

move : (c : After-copy_from_slice) → IsParentMove c.args.mode.now c.args.row.now (atoms_above c.args.mode.now c.args.row.now - 1)
move c = parent_move c.args.mode.now c.args.row.now c.requires.same_places c.requires.same_atoms c.requires.not_the_mode

above_within : (c : After-copy_from_slice) → c.first_above-above.result < length c.copy_from_slice.new.self
above_within c =
    omega (arith, (move c).above_within, c.first_above-above.ensures, ap length c.copy_from_slice.ensures.after)

below_within : (c : After-copy_from_slice) → c.first_above-below.result < length c.copy_from_slice.new.self
below_within c =
    omega (arith, (move c).below_within, c.first_above-below.ensures, ap length c.copy_from_slice.ensures.after)

pub offset_bounds-parent-above : goal.offset_bounds-parent-above
offset_bounds-parent-above c = let h = above_within (goal.at.offset_bounds-parent-above c).After-copy_from_slice in omega arith

pub bounds-parent-above : goal.bounds-parent-above
bounds-parent-above c = above_within (goal.at.bounds-parent-above c).After-copy_from_slice

pub bounds-parent-above-2 : goal.bounds-parent-above-2
bounds-parent-above-2 c = above_within (goal.at.bounds-parent-above-2 c).After-copy_from_slice

pub overflow_sub-parent : goal.overflow_sub-parent
overflow_sub-parent c =
    let back = move (goal.at.overflow_sub-parent c).After-copy_from_slice in
    rw (c.copy_from_slice.ensures.after, c.first_above-above.ensures) (omega (arith, back.above))

pub offset_bounds-parent-below : goal.offset_bounds-parent-below
offset_bounds-parent-below c = let h = below_within (goal.at.offset_bounds-parent-below c).After-copy_from_slice in omega arith

pub bounds-parent-below : goal.bounds-parent-below
bounds-parent-below c = simp length-set (below_within (goal.at.bounds-parent-below c).After-copy_from_slice)

pub bounds-parent-below-2 : goal.bounds-parent-below-2
bounds-parent-below-2 c = simp length-set (below_within (goal.at.bounds-parent-below-2 c).After-copy_from_slice)

pub overflow_add-parent : goal.overflow_add-parent
overflow_add-parent c =
    let back = move (goal.at.overflow_add-parent c).After-copy_from_slice in
    let apart : c.first_above-below.result ≢ c.first_above-above.result =
    λ e. back.apart (sym c.first_above-above.ensures ∙ sym e ∙ c.first_above-below.ensures) in
    rw (
      get_or-set_other c.copy_from_slice.new.self c.first_above-above.result c.first_above-below.result
          (get_or c.copy_from_slice.new.self c.first_above-above.result 0 - 1) 0 apart,
      c.copy_from_slice.ensures.after,
      c.first_above-below.ensures,
    ) (omega (arith, back.below, c.type_inv.mode (first_above c.args.row.now c.args.mode.now)))

pub returns-clause-parent : goal.returns-clause-parent
unfolding parent_of
returns-clause-parent c = simp (c.copy_from_slice.ensures.after, c.first_above-above.ensures, c.first_above-below.ensures)
