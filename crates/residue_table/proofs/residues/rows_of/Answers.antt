use Rattle.std.proofs.Common.{◌≡◌, ◌+◌, ◌-◌, ◌≤◌, ◌++◌, [], ◌∷◌, length, drop, rules, arith}
use Rattle.residue_table.specs.Rows.{IsRow}
use Rattle.residue_table.proofs.LevelRows.{one_level_more, push_row, zero_entry}
use Rattle.residue_table.proofs.residues.rows_of.Goals as goal

pub loop-level-preserved : goal.loop-level-preserved
loop-level-preserved c =
    let masses = c.args.masses.now in
    let inv = c.loop-level.invariant in
    let row = c.in_ok-of.field-0 in
    let heavier = c.in_ok-heavier.heavier in
    let rows : c.push.new.self.items ≡ c.loop-level.rows.items ++ row ∷ [] = search rules in
    let copied : c.deref.result.now ≡ c.loop-level.entries.items = c.deref.ensures.value in
    let same_length = rw copied at c.in_ok-heavier.ensures.length in
    let sums : IsRow (drop (length masses - (c.loop-level.level + 1)) masses) heavier.items =
    rw (one_level_more masses c.loop-level.level (omega arith))
    ((rw copied at c.in_ok-heavier.ensures.row) (drop (length masses - c.loop-level.level) masses) inv.row) in
    let some : 1 ≤ length heavier.items =
    omega (arith, same_length, inv.length_is, c.requires.modulus_above_zero) in
    record {
      one_each = search rules;
      rows = rw rows
          (push_row masses c.loop-level.rows.items row inv.rows c.in_ok-of.ensures.indexed
          (rw c.in_ok-of.ensures.entries inv.length_is) (rw (c.in_ok-of.ensures.entries, inv.one_each) inv.row));
      length_is = omega (arith, same_length, inv.length_is);
      from_zero = zero_entry (drop (length masses - (c.loop-level.level + 1)) masses) heavier.items sums some;
      row = sums;
    }

pub returns-clause-rows : goal.returns-clause-rows
returns-clause-rows c =
    let masses = c.args.masses.now in
    let inv = c.loop-level.invariant in
    let row = c.in_ok-of-2.field-0 in
    let rows : c.push-2.new.self.items ≡ c.loop-level.rows.items ++ row ∷ [] = search rules in
    rw rows
    (push_row masses c.loop-level.rows.items row inv.rows c.in_ok-of-2.ensures.indexed
    (rw c.in_ok-of-2.ensures.entries inv.length_is) (rw (c.in_ok-of-2.ensures.entries, inv.one_each) inv.row))
