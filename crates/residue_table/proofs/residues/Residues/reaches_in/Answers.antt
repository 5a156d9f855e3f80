use Rattle.std.proofs.Common.{◌-◌, ℕ, List, length, drop, ap, subst, arith}
use Rattle.residue_table.specs.Rows.{IsRow}
use Rattle.residue_table.proofs.LevelRows.{level_indexed, level_length, level_row}
use Rattle.residue_table.proofs.ProbedRows.{somewhere_of_row}
use Rattle.residue_table.proofs.residues.Residues.reaches_in.Goals as goal

pub reaches_in-requires-clause-indexed : goal.reaches_in-requires-clause-indexed
reaches_in-requires-clause-indexed g c =
    level_indexed c.self.inside.masses.items c.self.inside.rows.items c.self.invariant.rows_are
    c.self.invariant.one_each
    c.args.level c.index.result.now c.if-level-eq0.false
    (omega (arith, ap length c.self.view_is, c.requires.level)) c.index.ensures

pub reaches_in-requires-clause-modulus : goal.reaches_in-requires-clause-modulus
reaches_in-requires-clause-modulus g c =
    let same =
    level_length c.self.inside.masses.items c.self.inside.rows.items c.self.invariant.rows_are
    c.self.invariant.one_each
    c.args.level c.index.result.now c.if-level-eq0.false
    (omega (arith, ap length c.self.view_is, c.requires.level)) c.index.ensures in
    omega (arith, same, c.self.invariant.scaled.modulus_in_range)

pub returns-clause-reaches : goal.returns-clause-reaches
returns-clause-reaches g c =
    let row = c.index.result.now in
    let level = c.args.level in
    let sums : IsRow (drop (length c.args.self.now - level) c.args.self.now) row.entries.items =
    subst (λ (ms : List ℕ). IsRow (drop (length ms - level) ms) row.entries.items) c.self.view_is
    (level_row c.self.inside.masses.items c.self.inside.rows.items c.self.invariant.rows_are
    c.self.invariant.one_each level row
    c.if-level-eq0.false (omega (arith, ap length c.self.view_is, c.requires.level)) c.index.ensures) in
    somewhere_of_row _ _ sums c.args.lo c.args.hi c.requires.range _ c.reaches_in.ensures
