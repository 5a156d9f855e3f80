use Rattle.std.proofs.Common.{◌-◌, ℕ, List, length, drop, ap, subst, arith}
use Rattle.residue_table.specs.Rows.{IsRow}
use Rattle.residue_table.proofs.LevelRows.{level_indexed, level_length, level_row, none_reach_zero}
use Rattle.residue_table.proofs.ProbedRows.{least_of_row, none_of_row}
use Rattle.residue_table.proofs.residues.Residues.first_in.Goals as goal

pub returns-then-lo-eq0-clause-none : goal.returns-then-lo-eq0-clause-none
returns-then-lo-eq0-clause-none g c = (
  λ h. absurd (cc),
  λ nowhere. absurd (nowhere 0 (omega arith) (omega arith)
      (none_reach_zero c.args.self.now c.args.level (omega arith))),
)

pub first_in-requires-clause-indexed : goal.first_in-requires-clause-indexed
first_in-requires-clause-indexed g c =
    level_indexed c.self.inside.masses.items c.self.inside.rows.items c.self.invariant.rows_are
    c.self.invariant.one_each
    c.args.level c.index.result.now c.if-level-eq0.false
    (omega (arith, ap length c.self.view_is, c.requires.level)) c.index.ensures

pub first_in-requires-clause-modulus : goal.first_in-requires-clause-modulus
first_in-requires-clause-modulus g c =
    let same =
    level_length c.self.inside.masses.items c.self.inside.rows.items c.self.invariant.rows_are
    c.self.invariant.one_each
    c.args.level c.index.result.now c.if-level-eq0.false
    (omega (arith, ap length c.self.view_is, c.requires.level)) c.index.ensures in
    omega (arith, same, c.self.invariant.scaled.modulus_in_range)

pub returns-clause-least : goal.returns-clause-least
returns-clause-least g c =
    let row = c.index.result.now in
    let level = c.args.level in
    let sums : IsRow (drop (length c.args.self.now - level) c.args.self.now) row.entries.items =
    subst (λ (ms : List ℕ). IsRow (drop (length ms - level) ms) row.entries.items) c.self.view_is
    (level_row c.self.inside.masses.items c.self.inside.rows.items c.self.invariant.rows_are
    c.self.invariant.one_each level row
    c.if-level-eq0.false (omega (arith, ap length c.self.view_is, c.requires.level)) c.index.ensures) in
    least_of_row _ _ sums c.args.lo c.args.hi c.requires.range _ c.first_in.ensures.least

pub returns-clause-none : goal.returns-clause-none
returns-clause-none g c =
    let row = c.index.result.now in
    let level = c.args.level in
    let sums : IsRow (drop (length c.args.self.now - level) c.args.self.now) row.entries.items =
    subst (λ (ms : List ℕ). IsRow (drop (length ms - level) ms) row.entries.items) c.self.view_is
    (level_row c.self.inside.masses.items c.self.inside.rows.items c.self.invariant.rows_are
    c.self.invariant.one_each level row
    c.if-level-eq0.false (omega (arith, ap length c.self.view_is, c.requires.level)) c.index.ensures) in
    none_of_row _ _ sums c.args.lo c.args.hi c.requires.range _ c.first_in.ensures.least c.first_in.ensures.none
