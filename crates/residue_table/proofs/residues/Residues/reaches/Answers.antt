use Rattle.std.proofs.Common.{◌-◌, ℕ, List, length, drop, ap, subst, arith}
use Rattle.residue_table.specs.Rows.{IsRow}
use Rattle.residue_table.proofs.LevelRows.{level_row}
use Rattle.residue_table.proofs.residues.Residues.reaches.Goals as goal

pub returns : goal.returns
returns c =
    let row = c.index.result.now in
    let level = c.args.level in
    let sums : IsRow (drop (length c.args.self.now - level) c.args.self.now) row.entries.items =
    subst (λ (ms : List ℕ). IsRow (drop (length ms - level) ms) row.entries.items) c.self.view_is
    (level_row c.self.inside.masses.items c.self.inside.rows.items c.self.invariant.rows_are
    c.self.invariant.one_each level row
    c.if-level-eq0.false (omega (arith, ap length c.self.view_is, c.requires.level)) c.index.ensures) in (
      λ h. sums.sound c.args.value (omega (arith, c.requires.value)) (c.reaches.ensures.0 h),
      λ h. c.reaches.ensures.1 (sums.complete c.args.value h),
    )
